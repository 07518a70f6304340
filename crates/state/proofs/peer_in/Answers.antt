use borrow.Author.Rules.{rules}
use Rattle.state.specs.PeerOctets.{peer_of}
use Rattle.state.proofs.Trips.{same_peer, stage_read}
use Rattle.state.proofs.peer_in.Goals as goal

pub returns : goal.returns
unfolding peer_of
returns c = search (rules, same_peer, stage_read)
