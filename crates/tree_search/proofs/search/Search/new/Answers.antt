use Rattle.std.proofs.Common.{rules, ap, ◌≡◌, ℕ, ◌∙◌, false, replicate, None}
use Rattle.tree_search.proofs.Steps.{search_opens}
use Rattle.tree_search.proofs.search.Search.new.Goals as goal

pub invariant_of-result : goal.invariant_of-result
invariant_of-result g c =
    let n = c.args.graph.now.vertices in
    let count : c.vertices-n.result ≡ n = c.vertices-n.ensures.count in
    let marks : c.in_ok-marks.marks ≡ replicate n None = c.in_ok-marks.ensures ∙ ap (λ (k : ℕ). replicate k None) count in
    let settled : c.in_ok-settled.settled.items ≡ replicate n false = c.in_ok-settled.ensures.items_if_clones_equal (λ y h. search rules) ∙ ap (λ (k : ℕ). replicate k false) count in
    rw (c.of.ensures, marks, settled, c.new-2.ensures) (search_opens c.args.graph.now c.vertices-n.ensures.roads)

pub returns-clause-blank : goal.returns-clause-blank
returns-clause-blank g c =
    let n = c.args.graph.now.vertices in
    let count : c.vertices-n.result ≡ n = c.vertices-n.ensures.count in
    rw c.of.ensures (record {
      marks = c.in_ok-marks.ensures ∙ ap (λ (k : ℕ). replicate k None) count;
      settled = c.in_ok-settled.ensures.items_if_clones_equal (λ y h. search rules) ∙ ap (λ (k : ℕ). replicate k false) count;
    })
