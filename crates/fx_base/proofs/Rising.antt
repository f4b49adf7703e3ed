-- A list of rising places goes on rising with a place above its last one.
use Rattle.std.proofs.Common.{[], ◌∷◌, ◌++◌, List, arith}
use Rattle.fx_base.specs.Places.{PlaceShare, IsAboveLast, PlacesRise}

pub PlacesRise-push : (shares : List PlaceShare) (s : PlaceShare) → PlacesRise shares → IsAboveLast s.0 shares → PlacesRise (shares ++ s ∷ [])
PlacesRise-push [] s rise above = tt
PlacesRise-push (x ∷ []) s rise above = (above, tt)
PlacesRise-push (x ∷ y ∷ shares) s rise above = (rise.0, PlacesRise-push (y ∷ shares) s rise.1 above)

-- places 2 and 5 rise, and 6 goes behind them where 5 doesn't

abbrev two_shares : List PlaceShare
two_shares = (2, 7 ∷ []) ∷ (5, []) ∷ []

two_and_five_rise : PlacesRise two_shares
two_and_five_rise = (omega arith, tt)

six_is_above : IsAboveLast 6 two_shares
six_is_above = omega arith

five_is_not_above : IsAboveLast 5 two_shares → ⊥
five_is_not_above above = omega (arith, above)
