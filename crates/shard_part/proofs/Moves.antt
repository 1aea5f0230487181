-- Each move of the tables keeps what the tables keep, and is one write to the part's data.
use Rattle.shard_part.proofs.Words.{◌≡◌, ◌≢◌, ℕ, suc, ◌+◌, ◌<◌, ◌≤◌, Bool, true, false, ◌&&◌, eqb, Option, Some, None, List, length, set, get_or, ◌⊎◌, inl, inr, refl, sym, ap, ◌∙◌, subst, arith, length-set, get_or-set_same, get_or-set_other, eq-eqb, ne_eqb, cases_eq, WellFormed, one_if, Item, item_arc, well_formed, PartData, state_in, IsArc, network_of, place_in, IsPlanned, local_vertices, arcs_out, is, part_weight, names, engages, idles, LocalInvariant, IsClear, Room, Rows, one_if-most}
use Rattle.shard_store.specs.Tables.{scatter, IsApart}
use Rattle.shard_part.specs.Moves.{RepInvariant, IsSeen, AreRowDeficits, IsPlace, IsArcRow}
use Rattle.shard_store.proofs.Places.{table_read, table_write, table_long, own_apart, own_below, own_placed, arcs_apart, arc_owner}

module _ {S V : Type 0} where
  pub formed : (p : PartData S V) (s : ℕ) → IsPlanned p.setup s → WellFormed (network_of p.setup)
  formed p s P = well_formed p.setup.diffusion.roads p.setup.diffusion.source P.roads P.source.0

  pub place_at : (p old : PartData S V) (v j : ℕ) → p ≡ old → IsPlace old v j → IsPlace p v j
  place_at p old v j e P = subst (λ (u : PartData S V). IsPlace u v j) (sym e) P

  pub row_at : (p old : PartData S V) (b i : ℕ) → p ≡ old → IsArcRow old b i → IsArcRow p b i
  row_at p old b i e P = subst (λ (u : PartData S V). IsArcRow u b i) (sym e) P

  below : (p : PartData S V) (v j : ℕ) → IsPlace p v j → v < suc p.setup.diffusion.roads.vertices
  below p v j P = let b = own_below p.setup p.shard j P.inside in let e = P.vertex in omega (arith, b, e)

  pub arc_below : (p : PartData S V) (b i : ℕ) → IsArcRow p b i → b < suc (length p.setup.diffusion.roads.arcs)
  arc_below p b i P = let o = (arc_owner (network_of p.setup) (local_vertices p.setup p.shard) i P.inside).3 in let e = P.arc in omega (arith, o, e)

  pub apart : (p : PartData S V) → IsApart (arcs_out (network_of p.setup) (local_vertices p.setup p.shard))
  apart p = arcs_apart (network_of p.setup) (local_vertices p.setup p.shard) (own_apart p.setup p.shard)

  -- a vertex with a place is of the shard
  pub mine_at : (p : PartData S V) (v j : ℕ) → IsPlace p v j → v ≢ 0 → place_in p.setup v ≡ p.shard
  mine_at p v j P nz = subst (λ k. place_in p.setup k ≡ p.shard) P.vertex (own_placed p.setup p.shard j P.inside (λ w. nz (sym P.vertex ∙ w)))

  -- reads
  pub label_read : (p old : PartData S V) (r : Rows V) (n : Room) (ns : List ℕ) (v j : ℕ) (x : Option V) → p ≡ old → RepInvariant p r n ns
      → IsPlace old v j → x ≡ get_or r.labels j None → x ≡ get_or old.labels v None
  label_read p old r n ns v j x e D Q h = let P = place_at p old v j e Q in
      table_read (local_vertices p.setup p.shard) r.labels p.labels None (suc p.setup.diffusion.roads.vertices) j v x D.seen.labels
      (own_apart p.setup p.shard) P.inside D.sized.labels P.vertex (below p v j P) h
      ∙ ap (λ (u : PartData S V). get_or u.labels v None) e

  pub engager_read : (p old : PartData S V) (r : Rows V) (n : Room) (ns : List ℕ) (v j : ℕ) (x : Option ℕ) → p ≡ old → RepInvariant p r n ns
      → IsPlace old v j → x ≡ get_or r.engagers j None → x ≡ get_or old.engagers v None
  engager_read p old r n ns v j x e D Q h = let P = place_at p old v j e Q in
      table_read (local_vertices p.setup p.shard) r.engagers p.engagers None (suc p.setup.diffusion.roads.vertices) j v x D.seen.engagers
      (own_apart p.setup p.shard) P.inside D.sized.engagers P.vertex (below p v j P) h
      ∙ ap (λ (u : PartData S V). get_or u.engagers v None) e

  pub busy_read : (p old : PartData S V) (r : Rows V) (n : Room) (ns : List ℕ) (b i : ℕ) (x : Bool) → p ≡ old → RepInvariant p r n ns → IsArcRow old b i
      → x ≡ get_or r.busy i false → x ≡ get_or old.busy b false
  busy_read p old r n ns b i x e D Q h = let P = row_at p old b i e Q in
      table_read (arcs_out (network_of p.setup) (local_vertices p.setup p.shard)) r.busy p.busy false
      (suc (length p.setup.diffusion.roads.arcs)) i b x D.seen.busy (apart p) P.inside D.sized.busy P.arc (arc_below p b i P) h
      ∙ ap (λ (u : PartData S V). get_or u.busy b false) e

  pub told_read : (p old : PartData S V) (r : Rows V) (n : Room) (ns : List ℕ) (b i : ℕ) (x : Option V) → p ≡ old → RepInvariant p r n ns → IsArcRow old b i
      → x ≡ get_or r.told i None → x ≡ get_or old.told b None
  told_read p old r n ns b i x e D Q h = let P = row_at p old b i e Q in
      table_read (arcs_out (network_of p.setup) (local_vertices p.setup p.shard)) r.told p.told None
      (suc (length p.setup.diffusion.roads.arcs)) i b x D.seen.told (apart p) P.inside D.sized.told P.arc (arc_below p b i P) h
      ∙ ap (λ (u : PartData S V). get_or u.told b None) e

  -- a label is written
  pub label_leaves : (p old : PartData S V) (r : Rows V) (n : Room) (ns : List ℕ) (v j : ℕ) (x : Option V) → p ≡ old → RepInvariant p r n ns → IsPlace old v j →
      record p { labels = scatter (local_vertices p.setup p.shard) (set r.labels j x) None (suc p.setup.diffusion.roads.vertices) } ≡ record old { labels = set old.labels v x }
  label_leaves p old r n ns v j x e D Q = let P = place_at p old v j e Q in
      ap (λ (ys : List (Option V)). record p { labels = ys })
      (table_write (local_vertices p.setup p.shard) r.labels p.labels None (suc p.setup.diffusion.roads.vertices) j v x D.seen.labels
      (own_apart p.setup p.shard) P.inside D.sized.labels P.vertex)
      ∙ ap (λ (u : PartData S V). record u { labels = set u.labels v x }) e

  pub told_leaves : (p old : PartData S V) (r : Rows V) (n : Room) (ns : List ℕ) (b i : ℕ) (x : Option V) → p ≡ old → RepInvariant p r n ns → IsArcRow old b i →
      record p {
        told = scatter (arcs_out (network_of p.setup) (local_vertices p.setup p.shard)) (set r.told i x) None
            (suc (length p.setup.diffusion.roads.arcs));
      } ≡ record old { told = set old.told b x }
  told_leaves p old r n ns b i x e D Q = let P = row_at p old b i e Q in
      ap (λ (ys : List (Option V)). record p { told = ys })
      (table_write (arcs_out (network_of p.setup) (local_vertices p.setup p.shard)) r.told p.told None
      (suc (length p.setup.diffusion.roads.arcs)) i b x D.seen.told (apart p) P.inside D.sized.told P.arc)
      ∙ ap (λ (u : PartData S V). record u { told = set u.told b x }) e

  -- engagers, flags, offers, queue and outboxes become others, as many as they were
  pub rebuilt : (p : PartData S V) (r : Rows V) (n : Room) (ns : List ℕ) (es rows_es : List (Option ℕ)) (ds : List ℕ) (bs rows_bs : List Bool) (ts rows_ts : List (Option V))
      (xs : List (Item V)) (os : List (List (Item V))) → RepInvariant p r n ns
      → length rows_es ≡ length r.engagers → length ds ≡ length r.deficits → length rows_bs ≡ length r.busy → length rows_ts ≡ length r.told → length os ≡ length p.outs
      → IsSeen (record p { engagers = es; busy = bs; told = ts; queue = xs; outs = os }) (record r { engagers = rows_es; deficits = ds; busy = rows_bs; told = rows_ts })
      → AreRowDeficits (record p { engagers = es; busy = bs; told = ts; queue = xs; outs = os }) (record r { engagers = rows_es; deficits = ds; busy = rows_bs; told = rows_ts })
      → LocalInvariant (network_of p.setup) (place_in p.setup) (record p { engagers = es; busy = bs; told = ts; queue = xs; outs = os })
      → RepInvariant (record p { engagers = es; busy = bs; told = ts; queue = xs; outs = os }) (record r { engagers = rows_es; deficits = ds; busy = rows_bs; told = rows_ts }) n ns
  rebuilt p r n ns es rows_es ds bs rows_bs ts rows_ts xs os D e d b t o seen counts sound = record {
    planned = D.planned;
    sized = record {
      own = D.sized.own;
      offsets = D.sized.offsets;
      starts = D.sized.starts;
      labels = D.sized.labels;
      engagers = e ∙ D.sized.engagers;
      deficits = d ∙ D.sized.deficits;
      busy = b ∙ D.sized.busy;
      told = t ∙ D.sized.told;
    };
    seen = seen;
    counts = counts;
    sound = sound;
    roomy = record { queue = D.roomy.queue; order = D.roomy.order; boxes = o ∙ D.roomy.boxes; rings = D.roomy.rings; outs = D.roomy.outs };
    tallied = D.tallied;
  }

  pub told_keeps : (p : PartData S V) (r : Rows V) (n : Room) (ns : List ℕ) (i : ℕ) (x : Option V) → RepInvariant p r n ns →
      RepInvariant (record p {
        told = scatter (arcs_out (network_of p.setup) (local_vertices p.setup p.shard)) (set r.told i x) None
            (suc (length p.setup.diffusion.roads.arcs));
      }) (record r { told = set r.told i x }) n ns
  told_keeps p r n ns i x D = rebuilt p r n ns p.engagers r.engagers r.deficits p.busy r.busy _ (set r.told i x) p.queue p.outs D
      refl refl refl (length-set r.told i x) refl (record { labels = D.seen.labels; engagers = D.seen.engagers; busy = D.seen.busy; told = refl }) D.counts
      (record { once = D.sound.once; leads = D.sound.leads; here = D.sound.here; gone = D.sound.gone; wide = D.sound.wide })

  -- an engager is written
  engagers_written : (p : PartData S V) (r : Rows V) (n : Room) (ns : List ℕ) (v j : ℕ) (x : Option ℕ) → RepInvariant p r n ns → IsPlace p v j →
      scatter (local_vertices p.setup p.shard) (set r.engagers j x) None (suc p.setup.diffusion.roads.vertices) ≡ set p.engagers v x
  engagers_written p r n ns v j x D P = table_write (local_vertices p.setup p.shard) r.engagers p.engagers None
      (suc p.setup.diffusion.roads.vertices) j v x D.seen.engagers (own_apart p.setup p.shard) P.inside D.sized.engagers P.vertex

  pub engager_leaves : (p old : PartData S V) (r : Rows V) (n : Room) (ns : List ℕ) (v j : ℕ) (x : Option ℕ) → p ≡ old → RepInvariant p r n ns → IsPlace old v j →
      record p { engagers = scatter (local_vertices p.setup p.shard) (set r.engagers j x) None (suc p.setup.diffusion.roads.vertices) } ≡ record old { engagers = set old.engagers v x }
  engager_leaves p old r n ns v j x e D Q =
      ap (λ (ys : List (Option ℕ)). record p { engagers = ys }) (engagers_written p r n ns v j x D (place_at p old v j e Q)) ∙ ap (λ (u : PartData S V). record u { engagers = set u.engagers v x }) e

  -- the engaged arcs then
  engages_then : (p : PartData S V) (v : ℕ) (x : Option ℕ) (b : ℕ) → v < length p.engagers →
      (((network_of p.setup).head b ≡ v) × (engages (network_of p.setup) (place_in p.setup) p.shard
      (state_in (record p { engagers = set p.engagers v x })) b
      ≡ one_if (eqb (place_in p.setup ((network_of p.setup).head b)) p.shard && names x b)))
      ⊎ (((network_of p.setup).head b ≢ v) × (engages (network_of p.setup) (place_in p.setup) p.shard
      (state_in (record p { engagers = set p.engagers v x })) b ≡ engages (network_of p.setup) (place_in p.setup) p.shard (state_in p) b))
  engages_then p v x b l = elim (cases_eq ((network_of p.setup).head b) v) [
    | inl e ↦ inl (
      e,
      ap (λ z. one_if (eqb (place_in p.setup ((network_of p.setup).head b)) p.shard && names z b))
          (ap (λ m. get_or (set p.engagers v x) m None) e ∙ get_or-set_same p.engagers v x None l),
    )
    | inr ne ↦ inr (ne, ap (λ z. one_if (eqb (place_in p.setup ((network_of p.setup).head b)) p.shard && names z b)) (get_or-set_other p.engagers v ((network_of p.setup).head b) x None ne))
  ]

  keep_engagers : (p : PartData S V) (r : Rows V) (n : Room) (ns : List ℕ) (v j : ℕ) (x : Option ℕ) → RepInvariant p r n ns → IsPlace p v j
      → LocalInvariant (network_of p.setup) (place_in p.setup) (record p { engagers = set p.engagers v x }) →
      RepInvariant (record p { engagers = scatter (local_vertices p.setup p.shard) (set r.engagers j x) None (suc p.setup.diffusion.roads.vertices) }) (record r { engagers = set r.engagers j x }) n ns
  keep_engagers p r n ns v j x D P s = rebuilt p r n ns _ (set r.engagers j x) r.deficits p.busy r.busy p.told r.told p.queue p.outs D
      (length-set r.engagers j x) refl refl refl refl (record { labels = D.seen.labels; engagers = refl; busy = D.seen.busy; told = D.seen.told }) D.counts
      (subst (λ (ys : List (Option ℕ)). LocalInvariant (network_of p.setup) (place_in p.setup) (record p { engagers = ys })) (sym (engagers_written p r n ns v j x D P)) s)

  pub engage_keeps : (p old : PartData S V) (r : Rows V) (n : Room) (ns : List ℕ) (v j a : ℕ) → p ≡ old → RepInvariant p r n ns → IsPlace old v j
      → IsArc (network_of old.setup) a → (network_of old.setup).head a ≡ v → IsClear old a →
      RepInvariant (record p {
        engagers = scatter (local_vertices p.setup p.shard) (set r.engagers j (Some a)) None
            (suc p.setup.diffusion.roads.vertices);
      }) (record r { engagers = set r.engagers j (Some a) }) n ns
  engage_keeps p old r n ns v j a e D Q ar h z =
      let P = place_at p old v j e Q in
      let ar2 : IsArc (network_of p.setup) a = subst (λ (u : PartData S V). IsArc (network_of u.setup) a) (sym e) ar in
      let h2 : (network_of p.setup).head a ≡ v = subst (λ (u : PartData S V). (network_of u.setup).head a ≡ v) (sym e) h in
      let z2 : IsClear p a = subst (λ (u : PartData S V). IsClear u a) (sym e) z in
      let l : v < length p.engagers = (let q = table_long (local_vertices p.setup p.shard) r.engagers p.engagers None
      (suc p.setup.diffusion.roads.vertices) D.seen.engagers in let b = below p v j P in omega (arith, q, b)) in
      keep_engagers p r n ns v j (Some a) D P (record {
        once = λ b. (let o = D.sound.once b in elim (engages_then p v (Some a) b l) [
          | inr k ↦ (let q = k.1 in omega (arith, o, q))
          | inl k ↦ (let q = k.1 in elim (cases_eq b a) [
            | inl eb ↦ (let z3 : part_weight (λ _ i. is b (item_arc i)) p + engages (network_of p.setup) (place_in p.setup) p.shard
                (state_in p) b + idles (network_of p.setup) (place_in p.setup) p.shard (state_in p) b ≡ 0 =
                subst (λ c. part_weight (λ _ i. is c (item_arc i)) p + engages (network_of p.setup) (place_in p.setup) p.shard (state_in p) c + idles
                (network_of p.setup) (place_in p.setup) p.shard (state_in p) c ≡ 0) (sym eb) z2 in
                let m = one_if-most (eqb (place_in p.setup ((network_of p.setup).head b)) p.shard && names (Some a) b) in omega (arith, q, z3, m))
            | inr nb ↦ (let f : one_if (eqb (place_in p.setup ((network_of p.setup).head b)) p.shard && names (Some a) b)
                ≤ 0 = (let m = and_most_right (eqb (place_in p.setup ((network_of p.setup).head b)) p.shard) (eqb b a) in
                let g = ap one_if (ne_eqb b a nb) in omega (arith, m, g)) in omega (arith, o, q, f))
          ])
        ]);
        leads = λ u c m q. elim (cases_eq u v) [
          | inl eu ↦ (let w : Some a ≡ Some c = sym (ap (λ k. get_or (set p.engagers v (Some a)) k None) eu ∙ get_or-set_same p.engagers v (Some a) None l) ∙ q in
              let ac : a ≡ c = cc in subst (λ k. ((network_of p.setup).head k ≡ u) × IsArc (network_of p.setup) k) ac (h2 ∙ sym eu, ar2))
          | inr nu ↦ D.sound.leads u c m (sym (get_or-set_other p.engagers v u (Some a) None nu) ∙ q)
        ];
        here = D.sound.here;
        gone = D.sound.gone;
        wide = D.sound.wide;
      })
    where
      and_most_right : (s t : Bool) → one_if (s && t) ≤ one_if t
      and_most_right true true = omega arith
      and_most_right true false = omega arith
      and_most_right false true = omega arith
      and_most_right false false = omega arith

  release_sound : (p : PartData S V) (v e : ℕ) → LocalInvariant (network_of p.setup) (place_in p.setup) p → v < length p.engagers → place_in p.setup v ≡ p.shard → (state_in p).engager v ≡ Some e →
      LocalInvariant (network_of p.setup) (place_in p.setup) (record p { engagers = set p.engagers v None }) × IsClear (record p { engagers = set p.engagers v None }) e
  release_sound p v e D l m q = (
    record {
      once = λ b. (let o = D.once b in elim (engages_then p v None b l) [
        | inr k ↦ (let w = k.1 in omega (arith, o, w))
        | inl k ↦ (let w = k.1 in let f = none_named (eqb (place_in p.setup ((network_of p.setup).head b)) p.shard) in omega (arith, o, w, f))
      ]);
      leads = λ u c n w. elim (cases_eq u v) [
        | inl eu ↦ absurd (let g : None ≡ Some c = sym (ap (λ k. get_or (set p.engagers v None) k None) eu ∙ get_or-set_same p.engagers v None None l) ∙ w in cc)
        | inr nu ↦ D.leads u c n (sym (get_or-set_other p.engagers v u None None nu) ∙ w)
      ];
      here = D.here;
      gone = D.gone;
      wide = D.wide;
    },
    (let o = D.once e in
        let hv = (D.leads v e (eq-eqb (place_in p.setup v) p.shard m) q).0 in
        let one : engages (network_of p.setup) (place_in p.setup) p.shard (state_in p) e ≡ 1 =
        ap (λ t. one_if (t && names ((state_in p).engager ((network_of p.setup).head e)) e)) (ap (λ w. eqb (place_in p.setup w) p.shard) hv ∙ eq-eqb (place_in p.setup v) p.shard m)
        ∙ ap (λ z. one_if (true && names z e)) (ap (state_in p).engager hv ∙ q) ∙ true_and (eqb e e) (eq-eqb e e refl) in
        elim (engages_then p v None e l) [
          | inr k ↦ absurd (k.0 hv)
          | inl k ↦ (let w = k.1 in let f = none_named (eqb (place_in p.setup ((network_of p.setup).head e)) p.shard) in omega (arith, o, one, w, f))
        ]),
  )
    where
      none_named : (t : Bool) → one_if (t && false) ≡ 0
      none_named true = refl
      none_named false = refl

      true_and : (t : Bool) → t ≡ true → one_if (true && t) ≡ 1
      true_and t e = ap (λ z. one_if (true && z)) e

  pub release_keeps : (p old : PartData S V) (r : Rows V) (n : Room) (ns : List ℕ) (v j e : ℕ) → p ≡ old → RepInvariant p r n ns → IsPlace old v j → v ≢ 0 → (state_in old).engager v ≡ Some e →
      RepInvariant (record p {
        engagers = scatter (local_vertices p.setup p.shard) (set r.engagers j None) None
            (suc p.setup.diffusion.roads.vertices);
      }) (record r { engagers = set r.engagers j None }) n ns
      × IsClear (record p { engagers = scatter (local_vertices p.setup p.shard) (set r.engagers j None) None (suc p.setup.diffusion.roads.vertices) }) e
      × IsArc (network_of p.setup) e × (place_in p.setup ((network_of p.setup).head e) ≡ p.shard)
  release_keeps p old r n ns v j a e D Q nz q =
      let P = place_at p old v j e Q in
      let l : v < length p.engagers = (let w = table_long (local_vertices p.setup p.shard) r.engagers p.engagers None
      (suc p.setup.diffusion.roads.vertices) D.seen.engagers in let b = below p v j P in omega (arith, w, b)) in
      let m : place_in p.setup v ≡ p.shard = subst (λ k. place_in p.setup k ≡ p.shard) P.vertex (own_placed p.setup p.shard j P.inside (λ w. nz (sym P.vertex ∙ w))) in
      let q2 : (state_in p).engager v ≡ Some a = subst (λ (u : PartData S V). (state_in u).engager v ≡ Some a) (sym e) q in
      let R = release_sound p v a D.sound l m q2 in (
        keep_engagers p r n ns v j None D P R.0,
        subst (λ (ys : List (Option ℕ)). IsClear (record p { engagers = ys }) a) (sym (engagers_written p r n ns v j None D P)) R.1,
        (D.sound.leads v a (eq-eqb (place_in p.setup v) p.shard m) q2).1,
        ap (place_in p.setup) (D.sound.leads v a (eq-eqb (place_in p.setup v) p.shard m) q2).0 ∙ m,
      )
