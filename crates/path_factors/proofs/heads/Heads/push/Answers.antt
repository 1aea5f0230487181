use Rattle.path_factors.proofs.Words.{◌≡◌, ◌+◌, ◌∙◌, List, ℕ, [], ◌∷◌, ◌++◌, length, ap, arith, common_steps, length-append}
use Rattle.path_factors.proofs.Packing.{packed_more}
use Rattle.path_factors.proofs.heads.Heads.push.Goals as goal

pub returns : goal.returns
returns c =
    let starts = c.self.inside.starts.items in
    let places = c.self.inside.places.items in
    let row = c.args.row.now in
    let all : c.extend_from_slice.new.self.items ≡ places ++ row = grind (arith, common_steps) in
    let whole : c.in-Ok.end ≡ length c.extend_from_slice.new.self.items = grind (arith, common_steps) in
    let end : c.in-Ok.end ≡ length places + length row = omega (arith, whole, ap length all, length-append places row) in
    let ends : c.push.new.self.items ≡ starts ++ c.in-Ok.end ∷ [] = grind (arith, common_steps) in
    rw (ends, all, end) (packed_more starts places row c.self.invariant ∙ ap (λ (h : List (List ℕ)). h ++ row ∷ []) c.self.view_is)
