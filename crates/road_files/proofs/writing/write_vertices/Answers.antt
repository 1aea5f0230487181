use Rattle.std.proofs.Common.{◌∙◌, ◌∷◌, ℕ, decimal, ap, sym, drop_of_length-le}
use Rattle.std.proofs.lemmas.List.{get_or_default}
use Rattle.text_lines.specs.Texts.{spaced}
use Rattle.text_lines.proofs.ListLaws.{number_left, number_fell}
use Rattle.text_lines.proofs.WriteLaws.{wrote_last, fell_out}
use Rattle.road_files.proofs.writing.write_vertices.Goals as goal

pub loop-vertex-preserved : goal.loop-vertex-preserved
loop-vertex-preserved g c = number_left _ _ _ _ _ c.args.vertices.now c.loop-vertex.vertex-index c.loop-vertex-test.true
    (c.as_bytes.ensures.value ∙ c.as_str.ensures.value ∙ c.fill_vertex.ensures ∙ ap (λ (v : ℕ). 32 ∷ decimal v)
    (c.vertex-item.is ∙ get_or_default c.args.vertices.now c.loop-vertex.vertex-index _ 0 c.loop-vertex-test.true)) c.loop-vertex.invariant c.in_ok-write_bytes.ensures

pub returns-in_err-write_bytes : goal.returns-in_err-write_bytes
returns-in_err-write_bytes g c = fell_out _ _ _ _ c.from_residual.result c.from_residual.ensures.1
    (number_fell _ _ _ _ _ c.args.vertices.now c.loop-vertex.vertex-index c.loop-vertex-test.true
    (c.as_bytes.ensures.value ∙ c.as_str.ensures.value ∙ c.fill_vertex.ensures ∙ ap (λ (v : ℕ). 32 ∷ decimal v)
    (c.vertex-item.is ∙ get_or_default c.args.vertices.now c.loop-vertex.vertex-index _ 0 c.loop-vertex-test.true)) c.loop-vertex.invariant c.in_err-write_bytes.ensures)

pub returns : goal.returns
returns g c = wrote_last _ _ _ _ _ _ _ (sym (ap spaced (drop_of_length-le c.args.vertices.now c.loop-vertex-test.false))) c.loop-vertex.invariant c.write_bytes-2.ensures
