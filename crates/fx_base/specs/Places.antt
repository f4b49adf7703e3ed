-- Lists of places in rising order, each with the bytes that it gives.
use Rattle.std.specs.Prelude.{ℕ, ◌<◌, List, [], ◌∷◌}

-- a place, and the bytes that it gives
abbrev pub PlaceShare : Type 0
PlaceShare = ℕ × List ℕ

-- the place is above the last one of the list
abbrev pub IsAboveLast : ℕ → List PlaceShare → Type 0
IsAboveLast place [] = Unit {0}
IsAboveLast place (s ∷ []) = s.0 < place
IsAboveLast place (s ∷ t ∷ shares) = IsAboveLast place (t ∷ shares)

-- each place is above the one before it
abbrev pub PlacesRise : List PlaceShare → Type 0
PlacesRise [] = Unit {0}
PlacesRise (s ∷ []) = Unit {0}
PlacesRise (s ∷ t ∷ shares) = (s.0 < t.0) × PlacesRise (t ∷ shares)
