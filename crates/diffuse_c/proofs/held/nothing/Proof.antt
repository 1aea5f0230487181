-- `nothing` makes a null pointer, which owns nothing.
use Rattle.std.proofs.Common.{◌≡◌, [], ◌∷◌, refl, lit<, Option, None}
use Rattle.diffuse_c.proofs.Words.{Val, SProp, emp, ftrue, ‵, raw, ◌⊛◌, ◌$◌, ◌∵◌, !, qed, by, keep, drop, use0, alloc_all, pass_all, free_all, look_at, sets, agg, fact, fact_i, tables, null_ptr, nothing, Stays, walk_of, proved_at, leaves, Shared, Stop, Numbering}
use types.Run.{lit, no_more, and_then, returns, enter}
use Rattle.diffuse_c.proofs.Values.{alone, held_in}
use Rattle.diffuse_c.specs.contracts.held.nothing.{ended, clauses}
use Rattle.diffuse_c.specs.contracts.held.nothing.Key.{name as #self}
use Rattle.diffuse_c.proofs.held.nothing.Statement.{statement}
use Rattle.diffuse_c.proofs.held.nothing.Code as code

pub nothing_spec : {M : Type 1} → statement M
nothing_spec 𝓤 𝓛 𝓜 𝓡 wired =
    let H = 𝓛.H in let 𝓣 = tables 𝓤 H 𝓜 𝓡 𝓡.env in let c = clauses 𝓛 𝓜.mem 𝓡.returns in let fn = code.function in
    let hs : Stays ended.signature.params ended.kept = tt in
    proved_at 𝓛 ended hs c 𝓜 𝓡 tt #self fn (code.unfolded 𝓤 H 𝓜 𝓡 wired) (λ z are.
    let Post : Val → SProp 𝓤 = (walk_of 𝓛 ended hs c).post z in
    qed 𝓛 ((‵ ftrue ⊛ ‵ ftrue) ∷ raw (emp 𝓤) ∷ []) ∵ drop ! $ drop ! $
    enter ! 𝓣.C 𝓣.Λ fn [] Post $ alloc_all ! (λ l. pass_all ! refl tt $
    sets ! (agg ! (and_then ! (lit ! tt) (no_more !))) refl (tt, (record { fits = lit< tt }, tt)) $
    returns ! (look_at ! 0 refl) $ free_all ! refl $
    nothing ! $ let e : Option Shared = None in let y : Option Stop = None in let n : Option Numbering = None in
    held_in ! null_ptr e y n $ use0 𝓛 (raw (fact 𝓤 ((e ≡ None) × (y ≡ None) × (n ≡ None)))) (fact_i 𝓤 ((e ≡ None) × (y ≡ None) × (n ≡ None)) (emp 𝓤) (refl, refl, refl)) $ nothing ! $ nothing ! $ keep ! (0 ∷ 1 ∷ 3 ∷ 2 ∷ []) $
    by ! (leaves 𝓛 ended hs c z (alone null_ptr) (record { at = null_ptr; shared = None; stop = None; numbers = None }) tt tt)))
