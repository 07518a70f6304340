use Rattle.wire.proofs.Laws.{read_told, refused_told}
use Rattle.wire.proofs.tell.Goals as goal

pub returns-in-Ok : goal.returns-in-Ok
returns-in-Ok c = read_told _ _ _ _ _ _ c.in-Ok.is c.put_reading.ensures c.text_in.ensures c.word_telling.ensures

pub returns-in-Err : goal.returns-in-Err
returns-in-Err c = refused_told _ _ _ _ _ c.in-Err.is c.from.ensures c.word.ensures
