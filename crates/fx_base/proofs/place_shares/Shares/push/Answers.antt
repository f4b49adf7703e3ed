use Rattle.fx_base.proofs.Rising.{PlacesRise-push}
use Rattle.fx_base.proofs.place_shares.Shares.push.Goals as goal

pub invariant_of-self-2 : goal.invariant_of-self-2
invariant_of-self-2 c = rw c.in_ok-push.ensures.items (PlacesRise-push _ _ c.self.invariant (rw c.self.view_is c.requires))
