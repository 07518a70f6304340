use Rattle.std.proofs.Common.{◌∙◌, rules, tests}
use Rattle.std.proofs.lemmas.Iterator.{YieldsList-from_slice}
use Rattle.std.proofs.lemmas.Iterator.Search.{all_from_yields_List}
use Rattle.octets.specs.Octets.{is_hex}
use Rattle.octets.proofs.Scans.{hex_all}
use Rattle.octets.proofs.all_hex.Goals as goal

pub returns : goal.returns
returns c =
    all_from_yields_List (is_hex c.args.either) _ _ _ c.all.ensures.ran (YieldsList-from_slice c.args.s.now cc) (λ x b q k. search (rules, tests))
    ∙ hex_all c.args.either c.args.s.now
