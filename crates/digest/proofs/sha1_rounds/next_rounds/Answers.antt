use Rattle.digest.proofs.Schedules.{ring_words, ring_done, sha1_loops}
use Rattle.digest.proofs.sha1_rounds.next_rounds.Goals as goal

pub loop-k-init : goal.loop-k-init
loop-k-init c = search sha1_loops

pub loop-k-preserved : goal.loop-k-preserved
loop-k-preserved c = search sha1_loops

pub returns : goal.returns
returns c =
    (search sha1_loops, ring_words c.loop-k.invariant c.loop-k-test.false, ring_done c.loop-k.invariant c.loop-k-test.false)
