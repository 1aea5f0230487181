-- `release` hands on what is owned, and casts the pointer back.
use Rattle.std.proofs.Common.{◌≡◌, List, [], ◌∷◌, ◌++◌, refl, sym, ◌∙◌, subst, Option, Some, true}
use Rattle.diffuse_c.proofs.Words.{Val, vptr, bare, SProp, ent, emp, id⊢, never, fst∗, ftrue, WpFn, sem, ‵, raw, ◌⊛◌, ◌$◌, ◌∵◌, !, qed, by, move, keep, split, fsplit, fjoin, suffices, rewrite, use0, stop, fld, of_opd, no_more, and_then, returns, enter, alloc_all, pass_all, free_all, look_at, get, get_in, sets, agg, sub, whole, fact, fact_i, tables, owns, plain, block_ptr, null_ptr, in_a_block, lone, nothing, heard, Stays, stay_dropped, walk_of, Goes-blank, handle_tells, proved_at, leaves, box_owns, ghosts, Shared}
use Rattle.std.specs.contracts.alloc.Global as heap
use Rattle.std.proofs.alloc.Global.TheLaws as heap_laws
use Rattle.diffuse_c.specs.contracts.held.Held as held
use Rattle.diffuse_c.specs.Holding.{freeable, has_graph, held_at, owner_of, owner_row}
use Rattle.diffuse_c.proofs.Values.{both, box_pointer_good, box_pointer_in, al, alone, held_out, the_graph}
use Rattle.diffuse_c.specs.contracts.held.release.{ended, clauses}
use Rattle.diffuse_c.specs.contracts.held.release.Key.{name as #self}
use Rattle.diffuse_c.proofs.held.release.Statement.{statement}
use Rattle.diffuse_c.proofs.held.release.Code as code

pub release_spec : {M : Type 1} → statement M
release_spec 𝓤 𝓛 𝓜 𝓡 wired =
    let H = 𝓛.H in let 𝓣 = tables 𝓤 H 𝓜 𝓡 𝓡.env in let c = clauses 𝓛 𝓜.mem 𝓡.returns in let fn = code.function in
    let R = owner_row in let Z = heap.the_row in let LZ = heap_laws.the_row_laws in
    let hs : Stays ended.signature.params ended.kept = (stay_dropped (plain (λ _. Z)) ended.kept.0, (stay_dropped (plain (λ _. held.the_row)) ended.kept.1.0, tt)) in
    proved_at 𝓛 ended hs c 𝓜 𝓡 (Goes-blank 𝓛 0 (plain (λ _. Z)) ended.kept.0 (λ κs x f. tt), (Goes-blank 𝓛 0 (plain (λ _. held.the_row)) ended.kept.1.0 (λ κs x f. tt), tt)) #self
    fn (code.unfolded 𝓤 H 𝓜 𝓡 wired) (λ z are.
    let a = z.0.3.0 in let d = z.0.3.1.0 in let Post : Val → SProp 𝓤 = (walk_of 𝓛 ended hs c).post z in let Run : List Val → SProp 𝓤 = λ ws. WpFn 𝓤 H 𝓣.C 𝓣.Λ fn ws Post in
    qed 𝓛 ((‵ ftrue ⊛ ‵ (owns (Z ∷ held.the_row ∷ []) z.0.3 z.0.4)) ∷ raw (fact 𝓤 (has_graph d.shared ≡ true)) ∷ []) ∵ move ! (1 ∷ []) $ heard ! (has_graph d.shared ≡ true)
    (λ yes. let g : Shared = (the_graph d.shared yes).0 in let is : d.shared ≡ Some g = (the_graph d.shared yes).1 in split ! $ move ! (1 ∷ []) $ fsplit ! $
    handle_tells (al R Z LZ ghosts) ! a z.0.4.0 (λ h ea fits. move ! (1 ∷ []) $ fsplit ! $ held_out ! d z.0.4.1.0
    (λ ws. rewrite ! 0 (λ (x : Option Shared). ‵ (held_at d.at x d.stop d.numbers)) is refl $ in_a_block ! d.at (λ p. box_owns freeable R p (owner_of g d.stop d.numbers)) (fst∗ 𝓤 (never 𝓤) (sem 𝓛 (freeable (bare (lone R.mir)) null_ptr))) (λ b o e.
    let got : z.0.4.1.0 ≡ alone (block_ptr b o) ∷ [] = ws ∙ (λ i. alone (e i) ∷ []) in let xs : List Val = h ∷ alone (block_ptr b o) ∷ [] in
    suffices ! (Run xs) (subst (λ (us : List Val). ent 𝓤 (Run xs) (Run us)) (sym (λ i. ea i ++ (got i ++ []))) (id⊢ 𝓤 (Run xs))) $
    keep ! (0 ∷ 2 ∷ []) $ enter ! 𝓣.C 𝓣.Λ fn xs Post $ alloc_all ! (λ l. pass_all ! refl (fits, ((tt, (tt, tt)), tt)) $
    sets ! (of_opd ! (get_in ! (fld ! refl (stop !)) (sub ! 0 refl (whole !)))) refl (tt, tt) $ sets ! (of_opd ! (get ! refl)) refl (tt, tt) $
    sets ! (agg ! (and_then ! (get ! refl) (and_then ! (get ! refl) (no_more !)))) refl (box_pointer_good R Z LZ ghosts b o h fits) $
    returns ! (look_at ! 0 refl) $ free_all ! refl $
    box_pointer_in R Z LZ ghosts ! b o h a (owner_of g d.stop d.numbers) $ use0 𝓛 (raw (fact 𝓤 ((d.shared ≡ Some g) × (d.stop ≡ d.stop) × (d.numbers ≡ d.numbers))))
    (fact_i 𝓤 ((d.shared ≡ Some g) × (d.stop ≡ d.stop) × (d.numbers ≡ d.numbers)) (emp 𝓤) (is, refl, refl)) $ nothing ! $ nothing ! $ fjoin ! $ nothing ! $ fjoin ! $ nothing ! $ keep ! (0 ∷ 1 ∷ 3 ∷ 2 ∷ []) $
    by ! (leaves 𝓛 ended hs c z (both (vptr b o) h) (record { at = block_ptr b o; alloc = a; value = owner_of g d.stop d.numbers }) (tt, (tt, tt)) (tt, (tt, tt)))))))))
