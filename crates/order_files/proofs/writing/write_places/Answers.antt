use Rattle.std.proofs.Common.{◌∙◌, ◌<◌, ◌≤◌, length, arith}
use Rattle.text_lines.proofs.WriteLaws.{lines_start, line_left, line_fell, lines_end, fell_out}
use Rattle.order_files.specs.WrittenOrders.{place_words}
use Rattle.order_files.proofs.writing.write_places.Goals as goal

pub loop-i-init : goal.loop-i-init
loop-i-init g c = lines_start place_words _ c.args.places.now

pub loop-i-preserved : goal.loop-i-preserved
loop-i-preserved g c =
    let inside : c.loop-i.i < length c.args.places.now = c.loop-i-test.true in
    line_left place_words _ _ _ _ _ c.args.places.now c.loop-i.i 0 inside
    (c.as_bytes.ensures.value ∙ c.as_str.ensures.value ∙ c.fill_place.ensures) c.loop-i.invariant c.in_ok-write_bytes.ensures

pub returns-in_err-write_bytes : goal.returns-in_err-write_bytes
returns-in_err-write_bytes g c =
    let inside : c.loop-i.i < length c.args.places.now = c.loop-i-test.true in
    fell_out _ _ _ _ c.from_residual.result c.from_residual.ensures.1 (line_fell place_words _ _ _ _ _ c.args.places.now c.loop-i.i 0 inside
    (c.as_bytes.ensures.value ∙ c.as_str.ensures.value ∙ c.fill_place.ensures) c.loop-i.invariant c.in_err-write_bytes.ensures)

pub returns : goal.returns
returns g c =
    let past : length c.args.places.now ≤ c.loop-i.i = omega (arith, c.loop-i-test.false) in
    lines_end place_words _ _ _ c.loop-i.i c.args.places.now past c.loop-i.invariant
