use borrow.Author.Rules.{rules}
use mathlib.Core.Path.{sym, ◌∙◌}
use mathlib.Core.List.{[], ◌∷◌}
use Rattle.std.specs.Int.{w64, to_le_bytes}
use Rattle.packet.specs.Kinds.{kind_number}
use Rattle.wire.specs.Readings.{two_low, octets_of_place}
use Rattle.octets.proofs.Appends.{appended_by, laid_more, laid_done}
use Rattle.octets.proofs.Lists.{put_whole}
use Rattle.wire.proofs.Laws.{size_of_reading, laid_reading}
use Rattle.wire.proofs.put_reading.Goals as goal

pub returns : goal.returns
returns c =
    (laid_done {v = octets_of_place c.args.k.tail} c.append_place.ensures
    (laid_more {v = octets_of_place c.args.k.response} c.append_place-at-2.ensures
    (laid_more {v = octets_of_place c.args.k.challenge} c.append_place-at.ensures
    (laid_more {v = to_le_bytes w64 c.args.k.error} (appended_by _ _ _ _ _ _ c.append-at-3.ensures c.to_le_bytes.ensures)
    (laid_more {v = two_low c.args.k.length} (appended_by _ _ _ _ _ _ c.append-at-2.ensures c.two_low.ensures)
    (laid_more {v = kind_number c.args.k.kind ∷ c.args.k.id.0 ∷ c.args.k.chapid.0 ∷ []} (appended_by _ _ _ _ _ _ c.append-at.ensures (search rules))
    (laid_reading c.args.k _ c.requires))))))).now
    ∙ put_whole _ _ (size_of_reading c.args.k ∙ sym c.requires)
