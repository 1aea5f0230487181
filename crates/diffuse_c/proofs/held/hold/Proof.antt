-- `hold` hands on what is owned, and casts the pointer.
use Rattle.diffuse_c.proofs.Words.{◌≡◌, List, [], ◌∷◌, ◌++◌, refl, sym, subst, Option, Some, Val, vptr, SProp, ent, emp, id⊢, ftrue, WpFn, ‵, raw, ◌⊛◌, ◌$◌, ◌∵◌, !, qed, by, move, keep, split, fsplit, fjoin, suffices, use0, stop, fld, of_opd, no_more, and_then, returns, enter, alloc_all, pass_all, free_all, look_at, get, get_in, sets, agg, sub, whole, fact, fact_i, tables, owns, plain, block_ptr, nothing, Stays, stay_dropped, walk_of, Goes-blank, proved_at, leaves, ghosts, Shared, Stop, Numbering, owner_row}
use Rattle.std.specs.contracts.alloc.Global as heap
use Rattle.std.proofs.alloc.Global.TheLaws as heap_laws
use Rattle.diffuse_c.proofs.Values.{both, BoxPointer, box_pointer_good, box_pointer_out, alone, held_in}
use Rattle.diffuse_c.specs.contracts.held.hold.{ended, clauses}
use Rattle.diffuse_c.specs.contracts.held.hold.Key.{name as #self}
use Rattle.diffuse_c.proofs.held.hold.Statement.{statement}
use Rattle.diffuse_c.proofs.held.hold.Code as code

pub hold_spec : {M : Type 1} → statement M
hold_spec 𝓤 𝓛 𝓜 𝓡 wired =
    let H = 𝓛.H in let 𝓣 = tables 𝓤 H 𝓜 𝓡 𝓡.env in let c = clauses 𝓛 𝓜.mem 𝓡.returns in let fn = code.function in
    let R = owner_row in let Z = heap.the_row in let LZ = heap_laws.the_row_laws in let L = BoxPointer R Z LZ ghosts in
    let hs : Stays ended.signature.params ended.kept = (stay_dropped (plain (λ _. L)) ended.kept.0, tt) in
    proved_at 𝓛 ended hs c 𝓜 𝓡 (Goes-blank 𝓛 0 (plain (λ _. L)) ended.kept.0 (λ κs x f. tt), tt) #self fn (code.unfolded 𝓤 H 𝓜 𝓡 wired) (λ z are.
    let v = z.0.3.0 in let g : Shared = v.value.shared in let y : Option Stop = v.value.stop in let n : Option Numbering = v.value.numbers in let Post : Val → SProp 𝓤 = (walk_of 𝓛 ended hs c).post z in let Run : List Val → SProp 𝓤 = λ ws. WpFn 𝓤 H 𝓣.C 𝓣.Λ fn ws Post in
    qed 𝓛 ((‵ ftrue ⊛ ‵ (owns (L ∷ []) z.0.3 z.0.4)) ∷ raw (emp 𝓤) ∷ []) ∵ split ! $ move ! (1 ∷ []) $ fsplit ! $ box_pointer_out R Z LZ ghosts ! v z.0.4.0 (λ b o h e ws fits.
    suffices ! (Run (both (vptr b o) h ∷ [])) (subst (λ (us : List Val). ent 𝓤 (Run (both (vptr b o) h ∷ [])) (Run us)) (sym (λ i. ws i ++ [])) (id⊢ 𝓤 (Run (both (vptr b o) h ∷ [])))) $
    keep ! (0 ∷ []) $ enter ! 𝓣.C 𝓣.Λ fn (both (vptr b o) h ∷ []) Post $ alloc_all ! (λ l. pass_all ! refl (box_pointer_good R Z LZ ghosts b o h fits, tt) $
    sets ! (of_opd ! (get_in ! (fld ! refl (stop !)) (sub ! 0 refl (whole !)))) refl (tt, tt) $ sets ! (of_opd ! (get ! refl)) refl (tt, tt) $
    sets ! (agg ! (and_then ! (get ! refl) (no_more !))) refl (tt, (tt, tt)) $
    returns ! (look_at ! 0 refl) $ free_all ! refl $
    held_in ! (block_ptr b o) (Some g) y n $ use0 𝓛
    (raw (fact 𝓤 ((Some g ≡ Some g) × (y ≡ y) × (n ≡ n)))) (fact_i 𝓤 ((Some g ≡ Some g) × (y ≡ y) × (n ≡ n)) (emp 𝓤) (refl, refl, refl)) $ nothing ! $ nothing ! $ fjoin ! $ nothing ! $ keep ! (0 ∷ 1 ∷ 3 ∷ 2 ∷ []) $
    by ! (leaves 𝓛 ended hs c z (alone (block_ptr b o)) (record { at = block_ptr b o; shared = Some g; stop = y; numbers = n }) (tt, tt) (tt, tt)))))
