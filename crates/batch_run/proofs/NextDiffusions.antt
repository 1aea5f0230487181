-- The diffusions that wait: as they were gathered, and as the next is taken.
use Rattle.batch_run.proofs.Words.{zero, suc, ◌≡◌, ℕ, ◌≤◌, List, [], ◌∷◌, ◌++◌, length, map, take, drop, sym, ap, subst, ◌∙◌, arith, All, All-head, All-nil, All-tail, GraphData, Algebra, GatheredDiffusion, Settings}
use Rattle.std.proofs.lemmas.List.{take-append-drop}
use Rattle.road_files.specs.declared.questions.Kind.{Kind}
use Rattle.batch_run.specs.declared.solve.queue.DiffusionQueue.{DiffusionQueue}
use Rattle.batch_run.specs.Diffusions.{AreNext, IsChosen, IsGatheredOver}

-- the sources of some diffusions
abbrev pub sources_of_all : {V : Type 0} → List (GatheredDiffusion V) → List ℕ
sources_of_all ds = map (λ d. d.source) ds

module _ {V : Type 0} (A : Algebra V) (how : Settings) (g : GraphData) (kind : Kind) where
  -- none waits
  pub none_waits : (to_come : List ℕ) (queue : DiffusionQueue V) → IsChosen how g kind queue → queue.waiting.items ≡ [] → AreNext A how g kind to_come queue
  none_waits to_come queue chosen none = record {
    chosen = chosen;
    gathered = rw none (All-nil (IsGatheredOver A how g kind));
    rest = to_come;
    sources_are = ap (λ (l : List (GatheredDiffusion V)). sources_of_all l ++ to_come) (sym none);
  }

  module _ (to_come : List ℕ) (w : ℕ) where
    -- those that were gathered together wait
    pub group_waits : (queue : DiffusionQueue V) → sources_of_all queue.waiting.items ≡ take w to_come → IsChosen how g kind queue → All (IsGatheredOver A how g kind) queue.waiting.items → AreNext A how g kind to_come queue
    group_waits queue are chosen gathered = record {
      chosen = chosen;
      gathered = gathered;
      rest = drop w to_come;
      sources_are = sym (take-append-drop w to_come) ∙ ap (λ (l : List ℕ). l ++ drop w to_come) (sym are);
    }

    pub some_wait : (group : List (GatheredDiffusion V)) → sources_of_all group ≡ take w to_come → 1 ≤ w → 1 ≤ length to_come → 1 ≤ length group
    some_wait = go w to_come
      where
        go : (w : ℕ) (xs : List ℕ) (es : List (GatheredDiffusion V)) → sources_of_all es ≡ take w xs → 1 ≤ w → 1 ≤ length xs → 1 ≤ length es
        go w xs (e ∷ es) h low some = omega arith
        go zero xs [] h low some = absurd (omega (arith, low))
        go (suc w) [] [] h low some = absurd (omega (arith, some))
        go (suc w) (x ∷ xs) [] h low some = cc

  -- the next is taken
  module _ (to_come left : List ℕ) (source : ℕ) (old new : DiffusionQueue V) (e : GatheredDiffusion V) (next : to_come ≡ source ∷ left)
      (were : AreNext A how g kind to_come old) (is : old.waiting.items ≡ e ∷ new.waiting.items) where
    order : source ∷ left ≡ e.source ∷ (sources_of_all new.waiting.items ++ were.rest)
    order = sym next ∙ were.sources_are ∙ ap (λ (l : List (GatheredDiffusion V)). sources_of_all l ++ were.rest) is

    all : All (IsGatheredOver A how g kind) (e ∷ new.waiting.items)
    all = subst (All (IsGatheredOver A how g kind)) is were.gathered

    -- it is the next to come, it was gathered, and the others wait
    pub taken : IsChosen how g kind new → (to_come ≡ e.source ∷ left) × IsGatheredOver A how g kind e × AreNext A how g kind left new
    taken chosen = (
      let o = order in cc,
      All-head (IsGatheredOver A how g kind) e new.waiting.items all,
      record { chosen = chosen; gathered = All-tail (IsGatheredOver A how g kind) e new.waiting.items all; rest = were.rest; sources_are = let o = order in cc },
    )
