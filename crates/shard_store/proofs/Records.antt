-- Rows of a table, seen as a list for each thing that is known: what one write changes.
use Rattle.std.specs.Simd.Lanes.{zip2}
use Rattle.std.proofs.lemmas.Simd.{length-zip2, get_or-zip2}
use Rattle.std.proofs.Common.{◌≡◌, ℕ, ◌<◌, length, [], arith, zero, suc, Bool, true, false, Option, Some, None, List, ◌∷◌, map, set, get_or, replicate, refl, sym, ap, ◌∙◌, cond}
use Rattle.std.specs.Option.{unwrap_or, is_some}
use Rattle.std.proofs.lemmas.List.{map-set}
use Rattle.std.proofs.Math.Seq.{map-set_same}
use Rattle.shard_store.specs.declared.tables.VertexRow.{VertexRow}
use Rattle.shard_store.specs.declared.tables.ArcMarks.{ArcMarks}
use Rattle.shard_store.specs.Tables.{VertexLists, ArcLists, vertex_lists, arc_lists, label_in, engager_in, told_in}

module _ {X Y : Type 0} (f : X → Y) where
  map_replicate : (n : ℕ) (x : X) → map f (replicate n x) ≡ replicate n (f x)
  map_replicate zero x = refl
  map_replicate (suc n) x = ap (λ ys. f x ∷ ys) (map_replicate n x)

-- two lists side by side: the same write to both, and a write to the first that does not depend on
-- the second
module _ {X Y Z : Type 0} (f : X → Y → Z) where
  zip2_replicate : (n : ℕ) (x : X) (y : Y) → zip2 f (replicate n x) (replicate n y) ≡ replicate n (f x y)
  zip2_replicate zero x y = refl
  zip2_replicate (suc n) x y = ap (λ zs. f x y ∷ zs) (zip2_replicate n x y)

  zip2-set : (xs : List X) (ys : List Y) (i : ℕ) (x : X) (y : Y) → length xs ≡ length ys → zip2 f (set xs i x) (set ys i y) ≡ set (zip2 f xs ys) i (f x y)
  zip2-set [] ys i x y e = refl
  zip2-set (a ∷ xs) [] i x y e = absurd (omega (arith, e))
  zip2-set (a ∷ xs) (b ∷ ys) zero x y e = refl
  zip2-set (a ∷ xs) (b ∷ ys) (suc i) x y e = ap (λ zs. f a b ∷ zs) (zip2-set xs ys i x y (omega (arith, e)))

  zip2-set_left : (xs : List X) (ys : List Y) (i : ℕ) (x : X) (z : Z) → ((y : Y) → f x y ≡ z) → length xs ≡ length ys → zip2 f (set xs i x) ys ≡ set (zip2 f xs ys) i z
  zip2-set_left [] ys i x z h e = refl
  zip2-set_left (a ∷ xs) [] i x z h e = absurd (omega (arith, e))
  zip2-set_left (a ∷ xs) (b ∷ ys) zero x z h e = ap (λ c. c ∷ zip2 f xs ys) (h b)
  zip2-set_left (a ∷ xs) (b ∷ ys) (suc i) x z h e = ap (λ zs. f a b ∷ zs) (zip2-set_left xs ys i x z h (omega (arith, e)))

  zip2-set_left_same : (xs : List X) (ys : List Y) (i : ℕ) (d x : X) → ((y : Y) → f x y ≡ f d y) → d ≡ get_or xs i d → zip2 f (set xs i x) ys ≡ zip2 f xs ys
  zip2-set_left_same [] ys i d x h e = refl
  zip2-set_left_same (a ∷ xs) [] zero d x h e = refl
  zip2-set_left_same (a ∷ xs) [] (suc i) d x h e = refl
  zip2-set_left_same (a ∷ xs) (b ∷ ys) zero d x h e = ap (λ c. c ∷ zip2 f xs ys) (h b ∙ ap (λ g. f g b) e)
  zip2-set_left_same (a ∷ xs) (b ∷ ys) (suc i) d x h e = ap (λ zs. f a b ∷ zs) (zip2-set_left_same xs ys i d x h e)

module _ {X : Type 0} where
  -- a mark and a value, as an option
  option_so : (y : Option X) (old x : X) (t : Bool) → x ≡ unwrap_or y old → t ≡ is_some y → cond t (Some x) None ≡ y
  option_so None old x t e h = ap (λ b. cond b (Some x) None) h
  option_so (Some z) old x t e h = ap (λ b. cond b (Some x) None) h ∙ ap Some e

module _ {V : Type 0} where
  pub label_written : (rows : List (VertexRow V)) (now : VertexLists V) (j : ℕ) (x : VertexRow V) (v : V) → vertex_lists rows ≡ now → x ≡ get_or rows j x →
      vertex_lists (set rows j (record x { value = v; labelled = true })) ≡ record now { labels = set now.labels j (Some v) }
  label_written rows now j x v e h =
      (λ i. record {
        labels = map-set label_in rows j (record x { value = v; labelled = true }) i;
        engagers = map-set_same engager_in rows j (record x { value = v; labelled = true }) x (ap engager_in h) i;
        deficits = map-set_same (λ r. r.deficit) rows j (record x { value = v; labelled = true }) x (ap (λ r. r.deficit) h) i;
        offsets = map-set_same (λ r. r.offset) rows j (record x { value = v; labelled = true }) x (ap (λ r. r.offset) h) i;
      })
      ∙ ap (λ (t : VertexLists V). record t { labels = set t.labels j (Some v) }) e

  pub engager_written : (rows : List (VertexRow V)) (now : VertexLists V) (j : ℕ) (x : VertexRow V) (y : Option ℕ) (a : ℕ) (t : Bool)
      → vertex_lists rows ≡ now → x ≡ get_or rows j x → a ≡ unwrap_or y x.engager → t ≡ is_some y →
      vertex_lists (set rows j (record x { engager = a; engaged = t })) ≡ record now { engagers = set now.engagers j y }
  engager_written rows now j x y a t e h u w =
      (λ i. record {
        labels = map-set_same label_in rows j (record x { engager = a; engaged = t }) x (ap label_in h) i;
        engagers = (map-set engager_in rows j (record x { engager = a; engaged = t }) ∙ ap (set (map engager_in rows) j) (option_so y x.engager a t u w)) i;
        deficits = map-set_same (λ r. r.deficit) rows j (record x { engager = a; engaged = t }) x (ap (λ r. r.deficit) h) i;
        offsets = map-set_same (λ r. r.offset) rows j (record x { engager = a; engaged = t }) x (ap (λ r. r.offset) h) i;
      })
      ∙ ap (λ (s : VertexLists V). record s { engagers = set s.engagers j y }) e

  pub deficit_written : (rows : List (VertexRow V)) (now : VertexLists V) (j : ℕ) (x : VertexRow V) (n : ℕ) → vertex_lists rows ≡ now → x ≡ get_or rows j x →
      vertex_lists (set rows j (record x { deficit = n })) ≡ record now { deficits = set now.deficits j n }
  deficit_written rows now j x n e h =
      (λ i. record {
        labels = map-set_same label_in rows j (record x { deficit = n }) x (ap label_in h) i;
        engagers = map-set_same engager_in rows j (record x { deficit = n }) x (ap engager_in h) i;
        deficits = map-set (λ r. r.deficit) rows j (record x { deficit = n }) i;
        offsets = map-set_same (λ r. r.offset) rows j (record x { deficit = n }) x (ap (λ r. r.offset) h) i;
      })
      ∙ ap (λ (t : VertexLists V). record t { deficits = set t.deficits j n }) e

  pub offset_written : (rows : List (VertexRow V)) (now : VertexLists V) (j : ℕ) (x : VertexRow V) (n : ℕ) → vertex_lists rows ≡ now → x ≡ get_or rows j x →
      vertex_lists (set rows j (record x { offset = n })) ≡ record now { offsets = set now.offsets j n }
  offset_written rows now j x n e h =
      (λ i. record {
        labels = map-set_same label_in rows j (record x { offset = n }) x (ap label_in h) i;
        engagers = map-set_same engager_in rows j (record x { offset = n }) x (ap engager_in h) i;
        deficits = map-set_same (λ r. r.deficit) rows j (record x { offset = n }) x (ap (λ r. r.deficit) h) i;
        offsets = map-set (λ r. r.offset) rows j (record x { offset = n }) i;
      })
      ∙ ap (λ (t : VertexLists V). record t { offsets = set t.offsets j n }) e

  pub vertices_idle : (rows : List (VertexRow V)) (n : ℕ) (v : V) → rows ≡ replicate n (record { value = v; engager = 0; deficit = 0; offset = 0; labelled = false; engaged = false }) →
      vertex_lists rows ≡ record { labels = replicate n None; engagers = replicate n None; deficits = replicate n 0; offsets = replicate n 0 }
  vertices_idle rows n v e = ap vertex_lists e ∙ (λ i. record {
    labels = map_replicate label_in n (record { value = v; engager = 0; deficit = 0; offset = 0; labelled = false; engaged = false }) i;
    engagers = map_replicate engager_in n (record { value = v; engager = 0; deficit = 0; offset = 0; labelled = false; engaged = false }) i;
    deficits = map_replicate (λ (r : VertexRow V). r.deficit) n (record { value = v; engager = 0; deficit = 0; offset = 0; labelled = false; engaged = false }) i;
    offsets = map_replicate (λ (r : VertexRow V). r.offset) n (record { value = v; engager = 0; deficit = 0; offset = 0; labelled = false; engaged = false }) i;
  })

  pub busy_written : (marks : List ArcMarks) (labels : List V) (now : ArcLists V) (i : ℕ) (x : ArcMarks) (b : Bool) → arc_lists marks labels ≡ now → x ≡ get_or marks i x →
      arc_lists (set marks i (record x { busy = b })) labels ≡ record now { busy = set now.busy i b }
  busy_written marks labels now i x b e h =
      (λ k. record {
        busy = map-set (λ r. r.busy) marks i (record x { busy = b }) k;
        told = zip2-set_left_same told_in marks labels i x (record x { busy = b }) (λ y. refl) h k;
      })
      ∙ ap (λ (t : ArcLists V). record t { busy = set t.busy i b }) e

  -- what was offered on an arc in the list is read of its marks, and of its label if there is one
  pub arc_inside : (marks : List ArcMarks) (labels : List V) (now : ArcLists V) (i : ℕ) → length marks ≡ length labels → arc_lists marks labels ≡ now
      → i < length now.told → (i < length marks) × (i < length labels)
  arc_inside marks labels now i long e l =
      let all = length-zip2 told_in marks labels long in
      let told = ap (λ (t : ArcLists V). length t.told) e in
      (omega (arith, all, told, l), omega (arith, all, told, l, long))

  pub told_read : (marks : List ArcMarks) (labels : List V) (now : ArcLists V) (i : ℕ) (m : ArcMarks) (x : V) → length marks ≡ length labels → arc_lists marks labels ≡ now → i < length now.told →
      m ≡ get_or marks i m → m.told ≡ true → x ≡ get_or labels i x → Some x ≡ get_or now.told i None
  told_read marks labels now i m x long e l at t read =
      let inside = arc_inside marks labels now i long e l in
      (λ k. cond (sym t k) (Some x) None) ∙ (λ k. told_in (at k) (read k)) ∙ sym (get_or-zip2 told_in marks labels i m x None inside.0 inside.1) ∙ ap (λ (t : ArcLists V). get_or t.told i None) e

  pub untold_read : (marks : List ArcMarks) (labels : List V) (now : ArcLists V) (i : ℕ) (m : ArcMarks) → arc_lists marks labels ≡ now
      → m ≡ get_or marks i m → m.told ≡ false → None ≡ get_or now.told i None
  untold_read marks labels now i m e at f = sym (none marks labels i at) ∙ ap (λ (t : ArcLists V). get_or t.told i None) e
    where
      none : (marks : List ArcMarks) (labels : List V) (i : ℕ) → m ≡ get_or marks i m → get_or (zip2 told_in marks labels) i None ≡ None
      none [] labels i h = refl
      none (n ∷ marks) [] i h = refl
      none (n ∷ marks) (y ∷ labels) zero h = ap (λ (r : ArcMarks). told_in r y) (sym h) ∙ ap (λ b. cond b (Some y) None) f
      none (n ∷ marks) (y ∷ labels) (suc i) h = none marks labels i h

  pub told_written : (marks : List ArcMarks) (labels : List V) (now : ArcLists V) (i : ℕ) (x : ArcMarks) (v : V) → length marks ≡ length labels → arc_lists marks labels ≡ now → x ≡ get_or marks i x →
      arc_lists (set marks i (record x { told = true })) (set labels i v) ≡ record now { told = set now.told i (Some v) }
  told_written marks labels now i x v long e h =
      (λ k. record {
        busy = map-set_same (λ r. r.busy) marks i (record x { told = true }) x (ap (λ r. r.busy) h) k;
        told = zip2-set told_in marks labels i (record x { told = true }) v long k;
      })
      ∙ ap (λ (s : ArcLists V). record s { told = set s.told i (Some v) }) e

  pub untold_written : (marks : List ArcMarks) (labels : List V) (now : ArcLists V) (i : ℕ) (x : ArcMarks) → length marks ≡ length labels → arc_lists marks labels ≡ now → x ≡ get_or marks i x →
      arc_lists (set marks i (record x { told = false })) labels ≡ record now { told = set now.told i None }
  untold_written marks labels now i x long e h =
      (λ k. record {
        busy = map-set_same (λ r. r.busy) marks i (record x { told = false }) x (ap (λ r. r.busy) h) k;
        told = zip2-set_left told_in marks labels i (record x { told = false }) None (λ y. refl) long k;
      })
      ∙ ap (λ (s : ArcLists V). record s { told = set s.told i None }) e

  pub arcs_idle : (marks : List ArcMarks) (labels : List V) (n : ℕ) (v : V) → marks ≡ replicate n (record { told = false; busy = false }) → labels ≡ replicate n v →
      arc_lists marks labels ≡ record { busy = replicate n false; told = replicate n None }
  arcs_idle marks labels n v e f = (λ i. arc_lists (e i) (f i)) ∙ (λ i. record {
    busy = map_replicate (λ (m : ArcMarks). m.busy) n (record { told = false; busy = false }) i;
    told = zip2_replicate told_in n (record { told = false; busy = false }) v i;
  })
