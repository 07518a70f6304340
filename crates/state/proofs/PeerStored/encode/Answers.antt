use mathlib.Core.Path.{◌∙◌}
use Rattle.octets.proofs.Appends.{appended_by}
use borrow.Author.Rules.{rules}
use Rattle.peerlaws.specs.Runs.{IsPeer}
use Rattle.state.specs.PeerOctets.{octets_of_peer}
use Rattle.state.proofs.Trips.{length_octets_of_peer}
use Rattle.state.proofs.Puts.{more, none, stored_not, stored_all}
use Rattle.state.proofs.PeerStored.encode.Goals as goal

pub returns-then-octets-ne-PEER_OCTETS : goal.returns-then-octets-ne-PEER_OCTETS
unfolding octets_of_peer
returns-then-octets-ne-PEER_OCTETS c = search (rules, stored_not)

pub returns : goal.returns
unfolding octets_of_peer
returns c =
    stored_all
    (more (appended_by _ _ _ _ _ _ c.append-at.ensures c.peer_numbers.ensures)
    (more c.append-at-2.ensures
    (more c.append-at-3.ensures
    (more c.append-at-4.ensures
    (more c.append-at-5.ensures
    (more c.append-at-6.ensures
    (more c.append-at-7.ensures
    (more c.append.ensures none))))))))
    c.if-octets-ne-PEER_OCTETS.false
    (length_octets_of_peer _ (search rules))
