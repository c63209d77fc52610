mod CookieLemmas
mod HeadLemmas
mod SpaceLemmas
