-- How often what happens in a journal happened.
use Rattle.std.specs.Prelude.{◌≡◌, ℕ, ◌+◌, ◌-◌, ◌^◌, min, max, List, [], ◌∷◌, refl}
use Rattle.fx_base.specs.declared.names.How.{How}
use Rattle.fx_base.specs.declared.names.How.TheVariants as how
use Rattle.fx_base.specs.declared.names.Proc.{Proc}
use Rattle.fx_item.specs.declared.item.Item.{Item}
use Rattle.fx_item.specs.declared.item.Item.TheVariants as item
use Rattle.fx_world.specs.declared.counts.Counts.{Counts}

-- nothing happened
abbrev pub no_counts : Counts
no_counts = record { epochs = 0; kills = 0; inits = 0; fresh = 0; kept = 0; lost = 0; closed = 0; stores = 0; restores = 0; failed = 0; revoked = 0; ended = 0 }

-- one more, up to the last value of a count
abbrev pub one_more : ℕ → ℕ
one_more n = min (n + 1) (2 ^ 64 - 1)

-- a group was created in one of three ways
abbrev pub counted_creation : Counts → How → Counts
counted_creation c how.Fresh = record c { fresh = one_more c.fresh }
counted_creation c how.Kept = record c { kept = one_more c.kept }
counted_creation c how.Lost = record c { lost = one_more c.lost }

-- one more item
abbrev pub counted_one : Counts → Item → Counts
counted_one c (item.Kill p) = record c { kills = one_more c.kills }
counted_one c (item.Init p e role id rank size warn) = record c { epochs = max c.epochs e.0; inits = one_more c.inits }
counted_one c (item.Store p e g m list) = record c { stores = one_more c.stores }
counted_one c (item.Restore p e g m t list) = record c { restores = one_more c.restores }
counted_one c (item.Created p e k g how list) = counted_creation c how
counted_one c (item.Closed p e k g t) = record c { closed = one_more c.closed }
counted_one c (item.Failed p e k x) = record c { failed = one_more c.failed }
counted_one c (item.Revoked p e k x) = record c { revoked = one_more c.revoked }
counted_one c (item.Ended p) = record c { ended = one_more c.ended }
counted_one c other = c

-- the counts behind some items
abbrev pub counted : Counts → List Item → Counts
counted c [] = c
counted c (i ∷ items) = counted (counted_one c i) items

-- the counts of a journal
abbrev pub counts_of : List Item → Counts
counts_of items = counted no_counts items

-- two have ended, and one was killed
three_ends : (p q r : Proc) → counts_of (item.Kill p ∷ item.Ended q ∷ item.Told p q ∷ item.Ended r ∷ []) ≡ record no_counts { kills = 1; ended = 2 }
three_ends p q r = refl
