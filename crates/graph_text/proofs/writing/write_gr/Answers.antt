use Rattle.graph_text.proofs.Words.{◌∙◌, ℕ, ap, spelled, graph_words, fell_out}
use Rattle.graph_text.proofs.WrittenGraphs.{graph_then, graph_fell}
use Rattle.graph_text.proofs.writing.write_gr.Goals as goal

pub returns : goal.returns
returns g c = graph_then _ _ _ _ c.args.graph.now _ (c.as_bytes.ensures.value ∙ c.as_str.ensures.value ∙ c.line_of_graph-line.ensures
    ∙ ap (λ (n : ℕ). spelled (graph_words n c.arcs.result)) c.vertices.ensures.count ∙ ap (λ (m : ℕ). spelled (graph_words c.args.graph.now.vertices m)) c.arcs.ensures)
    c.in_ok-write_bytes.ensures c.write_arcs.ensures

pub returns-in_err-write_bytes : goal.returns-in_err-write_bytes
returns-in_err-write_bytes g c = fell_out _ _ _ _ c.from_residual.result c.from_residual.ensures.1
    (graph_fell _ _ _ c.args.graph.now (c.as_bytes.ensures.value ∙ c.as_str.ensures.value ∙ c.line_of_graph-line.ensures
    ∙ ap (λ (n : ℕ). spelled (graph_words n c.arcs.result)) c.vertices.ensures.count ∙ ap (λ (m : ℕ). spelled (graph_words c.args.graph.now.vertices m)) c.arcs.ensures) c.in_err-write_bytes.ensures)
