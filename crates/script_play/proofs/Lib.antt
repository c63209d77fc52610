mod BegunLemmas
mod FirstLemmas
