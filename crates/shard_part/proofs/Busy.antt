-- An arc becomes busy, or idle, and the deficit of its tail follows.
use Rattle.shard_part.proofs.Words.{◌≡◌, ◌≢◌, ℕ, zero, suc, ◌+◌, ◌-◌, ◌<◌, ◌≤◌, ◌^◌, Bool, true, false, not, ◌&&◌, eqb, List, length, set, get_or, ◌⊎◌, inl, inr, refl, sym, ap, ◌∙◌, subst, arith, length-set, get_or-set_same, get_or-set_other, eq-eqb, ne_eqb, cases_eq, cases_lt, take_all, Network, CoreState, is_idle, one_if, item_arc, scatter, busy_out, PartData, state_in, token_if, network_of, place_in, local_vertices, arcs_out, is, part_weight, engages, idles, LocalInvariant, IsClear, Room, Rows, AreRowDeficits, RepInvariant, IsPlace, IsArcRow, table_write, table_long, own_apart, own_placed, one_if-most}
use Rattle.shard_store.proofs.Totals.{sum_at, sum_below_same}
use Rattle.shard_store.proofs.Counting.{own_arcs_most}
use Rattle.shard_part.proofs.Moves.{place_at, row_at, arc_below, apart, rebuilt}

pub busy_most : {V : Type 0} (N : Network) (v : ℕ) (d : CoreState V) (n : ℕ) → busy_out N v d n ≤ n
busy_most N v d zero = omega arith
busy_most N v d (suc n) = let r = busy_most N v d n in let m = one_if-most (eqb (N.tail n) v && not (is_idle (d.token n))) in omega (arith, r, m)

and_false : (t : Bool) → one_if (t && false) ≡ 0
and_false true = refl
and_false false = refl

module _ {S V : Type 0} where
  -- how busy the vertex u is, seen by the flags
  term_other : (p : PartData S V) (u b : ℕ) (x : Bool) (k : ℕ) → k ≢ b →
      one_if (eqb ((network_of p.setup).tail k) u && not (is_idle ((state_in (record p { busy = set p.busy b x })).token k)))
      ≡ one_if (eqb ((network_of p.setup).tail k) u && not (is_idle ((state_in p).token k)))
  term_other p u b x k n = ap (λ z. one_if (eqb ((network_of p.setup).tail k) u && not (is_idle {V = V} (token_if z)))) (get_or-set_other p.busy b k x false n)

  pub busy_other : (p : PartData S V) (u b : ℕ) (x : Bool) (n : ℕ) → (network_of p.setup).tail b ≢ u
      → busy_out (network_of p.setup) u (state_in (record p { busy = set p.busy b x })) n ≡ busy_out (network_of p.setup) u (state_in p) n
  busy_other p u b x n ne = sum_below_same (λ k. one_if
      (eqb ((network_of p.setup).tail k) u && not (is_idle ((state_in (record p { busy = set p.busy b x })).token k))))
      (λ k. one_if (eqb ((network_of p.setup).tail k) u && not (is_idle ((state_in p).token k)))) n
      (λ k l. elim (cases_eq k b) [
        | inr m ↦ term_other p u b x k m
        | inl e ↦ off (eqb ((network_of p.setup).tail k) u) (not (is_idle ((state_in (record p { busy = set p.busy b x })).token k)))
            (not (is_idle ((state_in p).token k))) (ne_eqb ((network_of p.setup).tail k) u (λ z. ne (ap (network_of p.setup).tail (sym e) ∙ z)))
      ])
    where
      off : (s t w : Bool) → s ≡ false → one_if (s && t) ≡ one_if (s && w)
      off s t w e = (λ i. one_if (e i && t)) ∙ both t w ∙ (λ i. one_if (sym e i && w))
        where
          both : (t w : Bool) → one_if (false && t) ≡ one_if (false && w)
          both true true = refl
          both true false = refl
          both false true = refl
          both false false = refl

  -- the flag of b counts at its tail
  busy_here : (p : PartData S V) (u b : ℕ) (x : Bool) (n : ℕ) → b < n → b < length p.busy → (network_of p.setup).tail b ≡ u →
      busy_out (network_of p.setup) u (state_in (record p { busy = set p.busy b x })) n + one_if (get_or p.busy b false) ≡ busy_out (network_of p.setup) u (state_in p) n + one_if x
  busy_here p u b x n l m e =
      let d = sum_at (λ k. one_if (eqb ((network_of p.setup).tail k) u && not (is_idle ((state_in (record p { busy = set p.busy b x })).token k))))
      (λ k. one_if (eqb ((network_of p.setup).tail k) u && not (is_idle ((state_in p).token k)))) b n l (λ k ne. term_other p u b x k ne) in
      let f = at_flag (eqb ((network_of p.setup).tail b) u) (get_or p.busy b false) (eq-eqb ((network_of p.setup).tail b) u e) in
      let g = at_flag (eqb ((network_of p.setup).tail b) u) (get_or (set p.busy b x) b false) (eq-eqb ((network_of p.setup).tail b) u e) in
      let h = ap one_if (get_or-set_same p.busy b x false m) in omega (arith, d, f, g, h)
    where
      at_flag : (s t : Bool) → s ≡ true → one_if (s && not (is_idle {V = V} (token_if t))) ≡ one_if t
      at_flag s true e = ap (λ z. one_if (z && true)) e
      at_flag s false e = ap (λ z. one_if (z && false)) e

  -- an idle arc out of a vertex of the shard
  idles_then : (p : PartData S V) (a : ℕ) (x : Bool) (b : ℕ) → a < length p.busy →
      ((b ≡ a) × (idles (network_of p.setup) (place_in p.setup) p.shard (state_in (record p { busy = set p.busy a x })) b
      ≡ one_if (eqb (place_in p.setup ((network_of p.setup).tail b)) p.shard && is_idle {V = V} (token_if x))))
      ⊎ ((b ≢ a) × (idles (network_of p.setup) (place_in p.setup) p.shard (state_in (record p { busy = set p.busy a x })) b ≡ idles (network_of p.setup) (place_in p.setup) p.shard (state_in p) b))
  idles_then p a x b l = elim (cases_eq b a) [
    | inl e ↦ inl (
      e,
      ap (λ z. one_if (eqb (place_in p.setup ((network_of p.setup).tail b)) p.shard && is_idle {V = V} (token_if z)))
          (ap (λ k. get_or (set p.busy a x) k false) e ∙ get_or-set_same p.busy a x false l),
    )
    | inr ne ↦ inr (ne, ap (λ z. one_if (eqb (place_in p.setup ((network_of p.setup).tail b)) p.shard && is_idle {V = V} (token_if z))) (get_or-set_other p.busy a b x false ne))
  ]

  occupy_sound : (p : PartData S V) (b : ℕ) → LocalInvariant (network_of p.setup) (place_in p.setup) p → b < length p.busy
      → place_in p.setup ((network_of p.setup).tail b) ≡ p.shard → get_or p.busy b false ≡ false →
      LocalInvariant (network_of p.setup) (place_in p.setup) (record p { busy = set p.busy b true }) × IsClear (record p { busy = set p.busy b true }) b
  occupy_sound p b D l m f = (
    record {
      once = λ a. (let o = D.once a in let z = and_false (eqb (place_in p.setup ((network_of p.setup).tail a)) p.shard) in elim (idles_then p b true a l) [
        | inl k ↦ (let w = k.1 in omega (arith, o, w, z))
        | inr k ↦ (let w = k.1 in omega (arith, o, w))
      ]);
      leads = D.leads;
      here = D.here;
      gone = D.gone;
      wide = D.wide;
    },
    (let o = D.once b in let z = and_false (eqb (place_in p.setup ((network_of p.setup).tail b)) p.shard) in
        let one : idles (network_of p.setup) (place_in p.setup) p.shard (state_in p) b ≡ 1 = (λ i. one_if (eq-eqb _ _ m i && is_idle {V = V} (token_if (f i)))) in
        elim (idles_then p b true b l) [
          | inl k ↦ (let w = k.1 in omega (arith, o, w, z, one))
          | inr k ↦ absurd (k.0 refl)
        ]),
  )

  free_sound : (p : PartData S V) (a : ℕ) → LocalInvariant (network_of p.setup) (place_in p.setup) p → a < length p.busy → IsClear p a
      → LocalInvariant (network_of p.setup) (place_in p.setup) (record p { busy = set p.busy a false })
  free_sound p a D l z = record {
    once = λ b. (let o = D.once b in elim (idles_then p a false b l) [
      | inr k ↦ (let w = k.1 in omega (arith, o, w))
      | inl k ↦ (let w = k.1 in let m = one_if-most (eqb (place_in p.setup ((network_of p.setup).tail b)) p.shard && true) in
          let z2 : part_weight (λ _ i. is b (item_arc i)) p + engages (network_of p.setup) (place_in p.setup) p.shard (state_in p) b + idles
          (network_of p.setup) (place_in p.setup) p.shard (state_in p) b ≡ 0 =
          subst (λ c. part_weight (λ _ i. is c (item_arc i)) p + engages (network_of p.setup) (place_in p.setup) p.shard (state_in p) c + idles
          (network_of p.setup) (place_in p.setup) p.shard (state_in p) c ≡ 0) (sym k.0) z in
          omega (arith, w, m, z2))
    ]);
    leads = D.leads;
    here = D.here;
    gone = D.gone;
    wide = D.wide;
  }

  -- a clear arc out of the shard is busy
  pub clear_busy : (p : PartData S V) (a : ℕ) → place_in p.setup ((network_of p.setup).tail a) ≡ p.shard → IsClear p a → get_or p.busy a false ≡ true
  clear_busy p a m z = go (get_or p.busy a false) refl
    where
      go : (t : Bool) → get_or p.busy a false ≡ t → get_or p.busy a false ≡ true
      go true e = e
      go false e = absurd (let one : idles (network_of p.setup) (place_in p.setup) p.shard (state_in p) a
          ≡ 1 = (λ i. one_if (eq-eqb _ _ m i && is_idle {V = V} (token_if (e i)))) in omega (arith, z, one))

  busy_written : (p : PartData S V) (r : Rows V) (n : Room) (ns : List ℕ) (b i : ℕ) (x : Bool) → RepInvariant p r n ns → IsArcRow p b i →
      scatter (arcs_out (network_of p.setup) (local_vertices p.setup p.shard)) (set r.busy i x) false (suc (length p.setup.diffusion.roads.arcs)) ≡ set p.busy b x
  busy_written p r n ns b i x D P = table_write (arcs_out (network_of p.setup) (local_vertices p.setup p.shard)) r.busy p.busy false
      (suc (length p.setup.diffusion.roads.arcs)) i b x D.seen.busy (apart p) P.inside D.sized.busy P.arc

  pub busy_leaves : (p old : PartData S V) (r : Rows V) (n : Room) (ns : List ℕ) (b i : ℕ) (x : Bool) → p ≡ old → RepInvariant p r n ns → IsArcRow old b i →
      record p {
        busy = scatter (arcs_out (network_of p.setup) (local_vertices p.setup p.shard)) (set r.busy i x) false
            (suc (length p.setup.diffusion.roads.arcs));
      } ≡ record old { busy = set old.busy b x }
  busy_leaves p old r n ns b i x e D Q = ap (λ (ys : List Bool). record p { busy = ys }) (busy_written p r n ns b i x D (row_at p old b i e Q))
      ∙ ap (λ (u : PartData S V). record u { busy = set u.busy b x }) e

  keep_busy : (p : PartData S V) (r : Rows V) (n : Room) (ns : List ℕ) (v j b i : ℕ) (x : Bool) (d' : ℕ) → RepInvariant p r n ns → IsPlace p v j → IsArcRow p b i → (network_of p.setup).tail b ≡ v →
      d' + one_if (get_or p.busy b false) ≡ get_or r.deficits j 0 + one_if x →
      LocalInvariant (network_of p.setup) (place_in p.setup) (record p { busy = set p.busy b x }) →
      RepInvariant (record p {
        busy = scatter (arcs_out (network_of p.setup) (local_vertices p.setup p.shard)) (set r.busy i x) false
            (suc (length p.setup.diffusion.roads.arcs));
      }) (record r { busy = set r.busy i x; deficits = set r.deficits j d' }) n ns
  keep_busy p r n ns v j b i x d' D P Q t h s = rebuilt p r n ns p.engagers r.engagers (set r.deficits j d') _ (set r.busy i x) p.told r.told p.queue p.outs D
      refl (length-set r.deficits j d') (length-set r.busy i x) refl refl (record { labels = D.seen.labels; engagers = D.seen.engagers; busy = refl; told = D.seen.told })
      (subst (λ (ys : List Bool). AreRowDeficits (record p { busy = ys }) (record r { busy = set r.busy i x; deficits = set r.deficits j d' })) (sym (busy_written p r n ns b i x D Q)) counts)
      (subst (λ (ys : List Bool). LocalInvariant (network_of p.setup) (place_in p.setup) (record p { busy = ys })) (sym (busy_written p r n ns b i x D Q)) s)
    where
      long : length p.busy ≡ suc (length p.setup.diffusion.roads.arcs)
      long = table_long (arcs_out (network_of p.setup) (local_vertices p.setup p.shard)) r.busy p.busy false (suc (length p.setup.diffusion.roads.arcs)) D.seen.busy

      counts : AreRowDeficits (record p { busy = set p.busy b x }) (record r { busy = set r.busy i x; deficits = set r.deficits j d' })
      counts k l = elim (cases_eq k j) [
        | inl e ↦ (let w = get_or-set_same r.deficits j d' 0 (let q = D.sized.deficits in let z = P.inside in omega (arith, q, z)) in
            let u = ap (λ m. get_or (set r.deficits j d') m 0) e in
            let c = D.counts j P.inside in
            let g : (network_of p.setup).tail b ≡ get_or (local_vertices p.setup p.shard) j 0 = t ∙ sym P.vertex in
            let y = busy_here p (get_or (local_vertices p.setup p.shard) j 0) b x (suc (length p.setup.diffusion.roads.arcs)) (arc_below p b i Q)
            (let z = arc_below p b i Q in let q = long in omega (arith, z, q)) g in
            let v2 = ap (λ m. busy_out (network_of p.setup) (get_or (local_vertices p.setup p.shard) m 0)
            (state_in (record p { busy = set p.busy b x })) (suc (length p.setup.diffusion.roads.arcs))) e in
            omega (arith, w, u, c, y, h, v2))
        | inr ne ↦ get_or-set_other r.deficits j k d' 0 ne ∙ D.counts k l
            ∙ sym (busy_other p (get_or (local_vertices p.setup p.shard) k 0) b x (suc (length p.setup.diffusion.roads.arcs)) (λ q. differ k l ne (sym (sym t ∙ q) ∙ sym P.vertex)))
      ]
        where
          differ : (k : ℕ) → k < length (local_vertices p.setup p.shard) → k ≢ j → get_or (local_vertices p.setup p.shard) k 0 ≢ get_or (local_vertices p.setup p.shard) j 0
          differ k l ne q = elim (cases_lt k j) [
            | inl m ↦ own_apart p.setup p.shard k j m P.inside q
            | inr m ↦ own_apart p.setup p.shard j k (omega (arith, m, ne)) l (sym q)
          ]

  pub occupy_keeps : (p old : PartData S V) (r : Rows V) (n : Room) (ns : List ℕ) (v j b i d : ℕ) → p ≡ old → RepInvariant p r n ns → IsPlace old v j
      → IsArcRow old b i → (network_of old.setup).tail b ≡ v → v ≢ 0 → get_or old.busy b false ≡ false →
      d ≡ get_or r.deficits j 0 →
      RepInvariant (record p {
        busy = scatter (arcs_out (network_of p.setup) (local_vertices p.setup p.shard)) (set r.busy i true) false
            (suc (length p.setup.diffusion.roads.arcs));
      }) (record r { busy = set r.busy i true; deficits = set r.deficits j (d + 1) }) n ns
      × IsClear (record p { busy = scatter (arcs_out (network_of p.setup) (local_vertices p.setup p.shard)) (set r.busy i true) false (suc (length p.setup.diffusion.roads.arcs)) }) b
  occupy_keeps p old r n ns v j b i d e D stands lies t nz f h =
      let P = place_at p old v j e stands in let Q = row_at p old b i e lies in
      let t2 : (network_of p.setup).tail b ≡ v = subst (λ (u : PartData S V). (network_of u.setup).tail b ≡ v) (sym e) t in
      let f2 : get_or p.busy b false ≡ false = subst (λ (u : PartData S V). get_or u.busy b false ≡ false) (sym e) f in
      let m : place_in p.setup ((network_of p.setup).tail b) ≡ p.shard = ap (place_in p.setup) (t2 ∙ sym P.vertex) ∙ own_placed p.setup p.shard j P.inside (λ w. nz (sym P.vertex ∙ w)) in
      let l : b < length p.busy = (let w = table_long (arcs_out (network_of p.setup) (local_vertices p.setup p.shard)) r.busy p.busy false
      (suc (length p.setup.diffusion.roads.arcs)) D.seen.busy in let z = arc_below p b i Q in omega (arith, w, z)) in
      let O = occupy_sound p b D.sound l m f2 in
      let z = ap one_if f2 in (
        keep_busy p r n ns v j b i true (d + 1) D P Q t2 (omega (arith, h, z)) O.0,
        subst (λ (ys : List Bool). IsClear (record p { busy = ys }) b) (sym (busy_written p r n ns b i true D Q)) O.1,
      )

  -- the table of arcs is no longer than all arcs with the environment's
  pub rows_few : (p : PartData S V) (r : Rows V) (n : Room) (ns : List ℕ) → RepInvariant p r n ns → length r.busy ≤ 2 ^ 27 + 1
  rows_few p r n ns D =
      let m = own_arcs_most (network_of p.setup) (place_in p.setup) p.shard p.setup.diffusion.roads.vertices (length (local_vertices p.setup p.shard)) in
      let t = ap (λ vs. length (arcs_out (network_of p.setup) vs)) (take_all (length (local_vertices p.setup p.shard)) (local_vertices p.setup p.shard) (omega arith)) in
      let s = D.sized.busy in let a = D.planned.roads.few_arcs in omega (arith, m, t, s, a)

  pub deficit_few : (p old : PartData S V) (r : Rows V) (n : Room) (ns : List ℕ) (v j d : ℕ) → p ≡ old → RepInvariant p r n ns → IsPlace old v j → d ≡ get_or r.deficits j 0 → d ≤ 2 ^ 27 + 1
  deficit_few p old r n ns v j d e D R h =
      let P = place_at p old v j e R in
      let c = D.counts j P.inside in let m = busy_most (network_of p.setup) (get_or (local_vertices p.setup p.shard) j 0) (state_in p) (suc (length p.setup.diffusion.roads.arcs)) in
      let a = D.planned.roads.few_arcs in omega (arith, h, c, m, a)

  pub free_keeps : (p old : PartData S V) (r : Rows V) (n : Room) (ns : List ℕ) (v j a i d : ℕ) → p ≡ old → RepInvariant p r n ns → IsPlace old v j
      → IsArcRow old a i → (network_of old.setup).tail a ≡ v → place_in old.setup v ≡ old.shard → IsClear old a →
      d ≡ get_or r.deficits j 0 →
      (1 ≤ d) × RepInvariant (record p {
        busy = scatter (arcs_out (network_of p.setup) (local_vertices p.setup p.shard)) (set r.busy i false) false
            (suc (length p.setup.diffusion.roads.arcs));
      }) (record r { busy = set r.busy i false; deficits = set r.deficits j (d - 1) }) n ns
  free_keeps p old r n ns v j a i d e D stands lies t m z h =
      let P = place_at p old v j e stands in let Q = row_at p old a i e lies in
      let t2 : (network_of p.setup).tail a ≡ v = subst (λ (u : PartData S V). (network_of u.setup).tail a ≡ v) (sym e) t in
      let m2 : place_in p.setup v ≡ p.shard = subst (λ (u : PartData S V). place_in u.setup v ≡ u.shard) (sym e) m in
      let z2 : IsClear p a = subst (λ (u : PartData S V). IsClear u a) (sym e) z in
      let f2 = clear_busy p a (ap (place_in p.setup) t2 ∙ m2) z2 in
      let l : a < length p.busy = (let w = table_long (arcs_out (network_of p.setup) (local_vertices p.setup p.shard)) r.busy p.busy false
      (suc (length p.setup.diffusion.roads.arcs)) D.seen.busy in let y = arc_below p a i Q in omega (arith, w, y)) in
      let one = ap one_if f2 in
      let c = D.counts j P.inside in
      let y = busy_here p (get_or (local_vertices p.setup p.shard) j 0) a false (suc (length p.setup.diffusion.roads.arcs)) (arc_below p a i Q) l (t2 ∙ sym P.vertex) in
      let low : 1 ≤ d = omega (arith, h, c, y, one) in
      (low, keep_busy p r n ns v j a i false (d - 1) D P Q t2 (omega (arith, h, one, low)) (free_sound p a D.sound l z2))
