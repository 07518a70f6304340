use mathlib.Core.Path.{ap, ◌∙◌}
use Rattle.state.specs.PeerOctets.{peer_of}
use Rattle.state.proofs.Trips.{peer_sized}
use Rattle.state.proofs.PeerStored.decode.Goals as goal

pub returns : goal.returns
returns c = c.peer_in.ensures ∙ ap peer_of c.array_at-whole.ensures ∙ peer_sized _
