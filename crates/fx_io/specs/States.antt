-- What a source and a sink are seen as.
use Rattle.std.specs.Prelude.{ℕ, List, Option}

-- a source: the bytes that it still holds, where it tells, and how often it failed
pub record SourceState : Type 0 where
  pub left : Option (List ℕ)
  pub faults : ℕ

-- a sink: the bytes that were written so far, where it tells, and how often it failed
pub record SinkState : Type 0 where
  pub written : Option (List ℕ)
  pub faults : ℕ
