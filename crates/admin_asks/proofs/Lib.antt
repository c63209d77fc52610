pub mod SerialLemmas
