use Rattle.peer.proofs.Texts.{read_most, step_told}
use Rattle.peer.proofs.Peer.step.Goals as goal

pub receive-answer-requires : goal.receive-answer-requires
receive-answer-requires c = read_most _ _ c.read-read.ensures

pub returns : goal.returns
returns c = step_told _ _ _ _ _ _ _ _ _ c.read-read.ensures c.receive-answer.ensures (rw c.and.ensures at c.text_told-text.ensures)
