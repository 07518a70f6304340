use Rattle.octets.proofs.Appends.{appended_by}
use borrow.Author.Rules.{rules}
use Rattle.server.specs.State.{IsServer}
use Rattle.state.specs.ServerOctets.{octets_of_server}
use Rattle.state.proofs.Trips.{length_octets_of_server}
use Rattle.state.proofs.Puts.{more, none, stored_not, stored_all}
use Rattle.state.proofs.ServerStored.encode.Goals as goal

pub returns-then-octets-ne-SERVER_OCTETS : goal.returns-then-octets-ne-SERVER_OCTETS
unfolding octets_of_server
returns-then-octets-ne-SERVER_OCTETS c = search (rules, stored_not)

pub returns : goal.returns
unfolding octets_of_server
returns c =
    stored_all
    (more (appended_by _ _ _ _ _ _ c.append-at.ensures c.server_numbers.ensures)
    (more c.append-at-2.ensures
    (more c.append.ensures none)))
    c.if-octets-ne-SERVER_OCTETS.false
    (length_octets_of_server _ (search rules))
