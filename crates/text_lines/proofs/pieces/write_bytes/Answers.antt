use Rattle.std.proofs.lemmas.List.{take_rest}
use Rattle.text_lines.proofs.WriteLaws.{left_more_prefix}
use Rattle.text_lines.proofs.pieces.write_bytes.Goals as goal

pub loop-rest-preserved : goal.loop-rest-preserved
loop-rest-preserved g c = left_more_prefix _ _ _ c.in_ok-taken.taken _ _ _
    (take_rest c.loop-rest.rest.now c.in_ok-taken.taken) c.loop-rest.invariant c.in_ok-taken.ensures.bytes c.in_ok-taken.ensures.sound
