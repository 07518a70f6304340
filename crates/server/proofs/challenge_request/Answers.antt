use Rattle.std.proofs.Common.{◌≡◌, length, rules}
use Rattle.server.proofs.Laws.{challenge_sent}
use Rattle.server.proofs.challenge_request.Goals as goal

pub returns : goal.returns
returns c =
    let size : length c.args.challenge ≡ 16 = search rules in
    challenge_sent _ _ _ _ _ _ c.ids_of.ensures _ _ size c.requires c.write_challenge.ensures
