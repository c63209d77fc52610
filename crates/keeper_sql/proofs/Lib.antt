mod EndLemmas
mod MadeLemmas
mod ToldLemmas
