-- An ask with its password gone, and what the check of that password found.
use Rattle.asks.specs.declared.ask.Ask.{Ask}
use Rattle.asks.specs.declared.finding.Finding.{Finding}

pub record SolvedAsk : Type 0 where
  pub ask : Ask
  pub finding : Finding
