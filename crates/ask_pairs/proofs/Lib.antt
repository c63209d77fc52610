mod ListLemmas
mod PairLemmas
