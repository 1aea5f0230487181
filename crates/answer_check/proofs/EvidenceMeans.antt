-- What the evidence of all arcs into a vertex means: the line is right, or the evidence gives the
-- first reason against it.
use Rattle.std.proofs.Common.{◌≡◌, ℕ, ◌+◌, ◌<◌, ◌≤◌, ◌^◌, inl, inr, Bool, true, false, not, ◌&&◌, ◌||◌, nat_eq, nat_lt, List, [], ◌∷◌, map, refl, ap, sym, ◌∙◌, subst, arith, Option, Some, None, IsTrue, Contains, eqb-true, eq-eqb}
use Rattle.answer_check.proofs.Words.{common_steps, list_any, GraphData, HasArc, ListsRoadsInto, arc_of, road_of, reversed_arc, OutRoad, Algebra, IsLawful, label_of, same_no_worse, Reached, Evidence, Reason, NotBest, NoParent, OtherHops, LesserParent, HasWalk, IsCodeOf, Offers, Gives, IsRefuted, IsFirstReason, reason_number, IsSupported, IsRightLine}
use Rattle.std.proofs.lemmas.Bool.{eqb-false, lt-ltb, ltb-true, ltb-false, and_parts, not-true, not-false, false_from_ne_true}
use Rattle.std.proofs.lemmas.List.Folds.{list_any_at, Any-from_list_any}
use Rattle.answer_check.specs.Evidence.{decoded, candidate_from, candidate, is_same, passes, all_evidence, reason_by, is_there}
use Rattle.answer_check.proofs.Certified.{code_of_one, arc_offers}

-- an arc as it is seen from its head
abbrev seen : GraphData → ℕ → OutRoad
seen g a = road_of (reversed_arc (arc_of g a))

any_seen : (g : GraphData) (p : OutRoad → Bool) (numbers : List ℕ) → list_any p (map (seen g) numbers) ≡ list_any (λ a. p (seen g a)) numbers
any_seen g p [] = refl
any_seen g p (a ∷ numbers) = ap (λ (b : Bool). p (seen g a) || b) (any_seen g p numbers)

any_found : (p : ℕ → Bool) (xs : List ℕ) → list_any p xs ≡ true → (a : ℕ) × Contains xs a × (p a ≡ true)
any_found p xs h = let (k, a, lt, at, holds) = Any-from_list_any p xs h in (a, (k, lt, at), holds)

any_missed : (p : ℕ → Bool) (xs : List ℕ) → list_any p xs ≡ false → (a : ℕ) → Contains xs a → p a ≡ false
any_missed p xs h a c = false_from_ne_true (p a) (λ e. let bad : true ≡ false = sym (list_any_at p xs c.0 a c.1 (ap p c.2 ∙ e)) ∙ h in cc)

not_both : (a b : Bool) → (a && b) ≡ false → a ≡ true → b ≡ false
not_both true b h e = h
not_both false b h e = let bad : false ≡ true = e in absurd (cc)

module _ {V : Type 0} (A : Algebra V) (lawful : IsLawful A) where
  pub decoded_is : (c : ℕ) (x : V) → decoded A c ≡ Some x → IsCodeOf A c x
  decoded_is c x h = grind (arith, common_steps, ltb-true, lawful.code_of_value)

  pub is_decoded : (c : ℕ) (x : V) → IsCodeOf A c x → decoded A c ≡ Some x
  is_decoded c x h =
      let small : nat_lt c (2 ^ 64) ≡ true = lt-ltb c (2 ^ 64) (subst (λ (k : ℕ). k < 2 ^ 64) (sym h.1) (lawful.code_fits x h.0)) in
      rw small (ap A.value_of h.1 ∙ lawful.value_of_code x h.0)

  same_both : (y z : V) → is_same A.no_worse y z ≡ true → y ≡ z
  same_both y z h = grind (arith, common_steps, lawful.ordered.antisymmetric)

  same_itself : (y : V) → is_same A.no_worse y y ≡ true
  same_itself y = let e = same_no_worse A.no_worse lawful.ordered y in rw e refl

  module _ (g : GraphData) (lines : List (Option Reached)) where
    offers_by : (a : ℕ) → HasArc g a → (b : Reached × V) (l : Option Reached) → label_of lines (arc_of g a).tail ≡ l → candidate_from A l (arc_of g a).weight ≡ Some b →
        Offers A g lines (arc_of g a).tail (arc_of g a).head b.0 b.1
    offers_by a h b None e f = let bad : None ≡ Some b = f in absurd (cc)
    offers_by a h b (Some near) e f = grind (arith, common_steps, arc_offers, decoded_is)

    offers_candidate : (u v : ℕ) (near : Reached) (z : V) → (b : Offers A g lines u v near z) → candidate A lines (seen g b.arc) ≡ Some (near, z)
    offers_candidate u v near z b = grind (arith, common_steps, is_decoded, b.tail_is, b.line_is, b.code_is, b.extends)

    module _ (v : ℕ) (roads : List OutRoad) (into : ListsRoadsInto g v roads) where
      module _ (test : ℕ → Reached → V → Bool) where
        -- whether what an arc offers passes the test
        abbrev shows : OutRoad → Bool
        shows road = passes (test road.head) (candidate A lines road)

        by_arcs : list_any shows roads ≡ list_any (λ a. shows (seen g a)) into.0
        by_arcs = ap (list_any shows) into.2 ∙ any_seen g shows into.0

        found_by : (a : ℕ) → HasArc g a → (arc_of g a).head ≡ v → (o : Option (Reached × V)) → candidate A lines (seen g a) ≡ o → passes (test (arc_of g a).tail) o ≡ true →
            (u : ℕ) × (near : Reached) × (z : V) × Offers A g lines u v near z × (test u near z ≡ true)
        found_by a h e None f t = let bad : false ≡ true = t in absurd (cc)
        found_by a h e (Some b) f t =
            let offers = offers_by a h b (label_of lines (arc_of g a).tail) refl f in
            ((arc_of g a).tail, b.0, b.1, subst (λ (k : ℕ). Offers A g lines (arc_of g a).tail k b.0 b.1) e offers, t)

        -- where some arc passes, something is offered that does
        found : list_any shows roads ≡ true → (u : ℕ) × (near : Reached) × (z : V) × Offers A g lines u v near z × (test u near z ≡ true)
        found h =
            let a = any_found (λ a. shows (seen g a)) into.0 (sym by_arcs ∙ h) in
            let arc = (into.1 a.0).0 a.1 in
            found_by a.0 arc.0 arc.1 (candidate A lines (seen g a.0)) refl a.2

        -- where no arc passes, nothing is offered that does
        missed : list_any shows roads ≡ false → (u : ℕ) (near : Reached) (z : V) → Offers A g lines u v near z → test u near z ≡ false
        missed h u near z b =
            let none = any_missed (λ a. shows (seen g a)) into.0 (sym by_arcs ∙ h) b.arc ((into.1 b.arc).1 (b.is_arc, b.head_is)) in
            let here : test (arc_of g b.arc).tail near z ≡ false = subst (λ (o : Option (Reached × V)). passes (test (arc_of g b.arc).tail) o ≡ false) (offers_candidate u v near z b) none in
            subst (λ (k : ℕ). test k near z ≡ false) b.tail_is here

      before_walk : (s : Reason) → reason_number s < 6 → IsRefuted A g lines v None s → ⊥
      before_walk HasWalk lt h = omega (arith, lt)
      before_walk s lt h = h

      -- where an arc offers a value, an unreached line is refused
      pub walk_judged : list_any (λ road. is_there (candidate A lines road)) roads ≡ true → IsFirstReason (IsRightLine A g lines v None) (IsRefuted A g lines v None) (Some HasWalk)
      walk_judged h = let f = found (λ _ _ _. true) h in ((f.0, f.1, f.2, f.3), before_walk)

      -- where no arc offers a value, an unreached line is right
      pub walk_missed : list_any (λ road. is_there (candidate A lines road)) roads ≡ false → IsRightLine A g lines v None
      walk_missed h u near z b = let none : true ≡ false = missed (λ _ _ _. true) h u near z b in cc

      module _ (r : Reached) (y : V) (code : IsCodeOf A r.code y) where
        abbrev better : ℕ → Reached → V → Bool
        better u near z = not (A.no_worse y z)

        abbrev supported : ℕ → Reached → V → Bool
        supported u near z = is_same A.no_worse y z && nat_eq u r.parent

        abbrev astray : ℕ → Reached → V → Bool
        astray u near z = is_same A.no_worse y z && (nat_eq u r.parent && not (nat_eq (near.hops + 1) r.hops))

        abbrev nearer : ℕ → Reached → V → Bool
        nearer u near z = is_same A.no_worse y z && nat_lt (near.hops + 1) r.hops

        abbrev lesser : ℕ → Reached → V → Bool
        lesser u near z = is_same A.no_worse y z && (nat_lt u r.parent && nat_eq (near.hops + 1) r.hops)

        abbrev shown : Evidence
        shown = all_evidence A A.no_worse lines r y roads

        abbrev Refuted : Reason → Type 0
        Refuted = IsRefuted A g lines v (Some r)

        -- the reasons below a number, where those that could come first do not hold
        no_earlier : (n : ℕ) → n ≤ 5 → (2 < n → Refuted NotBest → ⊥) → (3 < n → Refuted NoParent → ⊥) → (4 < n → Refuted OtherHops → ⊥) →
            (s : Reason) → reason_number s < n → Refuted s → ⊥
        no_earlier n few f2 f3 f4 NotBest lt h = f2 lt h
        no_earlier n few f2 f3 f4 NoParent lt h = f3 lt h
        no_earlier n few f2 f3 f4 OtherHops lt h = f4 lt h
        no_earlier n few f2 f3 f4 LesserParent lt h = omega (arith, few, lt)
        no_earlier n few f2 f3 f4 s lt h = h

        same_value : (x : V) → IsCodeOf A r.code x → x ≡ y
        same_value x h = code_of_one A lawful r.code x y h code

        -- what gives the line's value offers y
        gives_value : (u : ℕ) (near : Reached) → Gives A g lines u v near r → Offers A g lines u v near y
        gives_value u near h = subst (λ (z : V). Offers A g lines u v near z) (same_value h.0 h.1) h.2

        -- what is offered and is the same value gives it
        value_given : (u : ℕ) (near : Reached) (z : V) → Offers A g lines u v near z → is_same A.no_worse y z ≡ true → Gives A g lines u v near r
        value_given u near z b e = (y, code, subst (λ (x : V). Offers A g lines u v near x) (sym (same_both y z e)) b)

        is_beaten : shown.better ≡ true → Refuted NotBest
        is_beaten h =
            let f = found better h in
            (y, code, (f.0, f.1, f.2, f.3, λ t. let bad : true ≡ false = sym t ∙ not-true (A.no_worse y f.2) f.4 in cc))

        none_better : shown.better ≡ false → (u : ℕ) (near : Reached) (z : V) → Offers A g lines u v near z → IsTrue (A.no_worse y z)
        none_better h u near z b = not-false (A.no_worse y z) (missed better h u near z b)

        not_beaten : shown.better ≡ false → Refuted NotBest → ⊥
        not_beaten h beaten =
            let b = beaten.2 in
            b.4 (subst (λ (x : V). IsTrue (A.no_worse x b.2)) (sym (same_value beaten.0 beaten.1)) (none_better h b.0 b.1 b.2 b.3))

        from_parent : shown.supported ≡ true → (near : Reached) × Gives A g lines r.parent v near r
        from_parent h =
            let f = found supported h in
            let t = and_parts (is_same A.no_worse y f.2) (nat_eq f.0 r.parent) f.4 in
            (f.1, subst (λ (u : ℕ). Gives A g lines u v f.1 r) (eqb-true f.0 r.parent t.1) (value_given f.0 f.1 f.2 f.3 t.0))

        no_parent : shown.supported ≡ false → Refuted NoParent
        no_parent h = λ near gives.
            let none = missed supported h r.parent near y (gives_value r.parent near gives) in
            eqb-false r.parent r.parent (not_both (is_same A.no_worse y y) (nat_eq r.parent r.parent) none (same_itself y)) refl

        goes_astray : shown.astray ≡ true → Refuted OtherHops
        goes_astray h =
            let f = found astray h in
            let t = and_parts (is_same A.no_worse y f.2) (nat_eq f.0 r.parent && not (nat_eq (f.1.hops + 1) r.hops)) f.4 in
            let s = and_parts (nat_eq f.0 r.parent) (not (nat_eq (f.1.hops + 1) r.hops)) t.1 in
            inl (
              f.1,
              subst (λ (u : ℕ). Gives A g lines u v f.1 r) (eqb-true f.0 r.parent s.0) (value_given f.0 f.1 f.2 f.3 t.0),
              eqb-false (f.1.hops + 1) r.hops (not-true (nat_eq (f.1.hops + 1) r.hops) s.1),
            )

        hops_of_parent : shown.astray ≡ false → (near : Reached) → Gives A g lines r.parent v near r → near.hops + 1 ≡ r.hops
        hops_of_parent h near gives =
            let none = missed astray h r.parent near y (gives_value r.parent near gives) in
            let t = not_both (is_same A.no_worse y y) (nat_eq r.parent r.parent && not (nat_eq (near.hops + 1) r.hops)) none (same_itself y) in
            let s = not_both (nat_eq r.parent r.parent) (not (nat_eq (near.hops + 1) r.hops)) t (eq-eqb r.parent r.parent refl) in
            eqb-true (near.hops + 1) r.hops (not-false (nat_eq (near.hops + 1) r.hops) s)

        has_nearer : shown.nearer ≡ true → Refuted OtherHops
        has_nearer h =
            let f = found nearer h in
            let t = and_parts (is_same A.no_worse y f.2) (nat_lt (f.1.hops + 1) r.hops) f.4 in
            inr (f.0, f.1, value_given f.0 f.1 f.2 f.3 t.0, ltb-true (f.1.hops + 1) r.hops t.1)

        none_nearer : shown.nearer ≡ false → (u : ℕ) (near : Reached) → Offers A g lines u v near y → r.hops ≤ near.hops + 1
        none_nearer h u near b =
            ltb-false (near.hops + 1) r.hops (not_both (is_same A.no_worse y y) (nat_lt (near.hops + 1) r.hops) (missed nearer h u near y b) (same_itself y))

        same_hops : shown.astray ≡ false → shown.nearer ≡ false → Refuted OtherHops → ⊥
        same_hops h k (inl o) = o.2 (hops_of_parent h o.0 o.1)
        same_hops h k (inr o) =
            omega (arith, none_nearer k o.0 o.1 (gives_value o.0 o.1 o.2), o.3)

        has_lesser : shown.lesser ≡ true → Refuted LesserParent
        has_lesser h =
            let f = found lesser h in
            let t = and_parts (is_same A.no_worse y f.2) (nat_lt f.0 r.parent && nat_eq (f.1.hops + 1) r.hops) f.4 in
            let s = and_parts (nat_lt f.0 r.parent) (nat_eq (f.1.hops + 1) r.hops) t.1 in
            (f.0, f.1, value_given f.0 f.1 f.2 f.3 t.0, ltb-true f.0 r.parent s.0, eqb-true (f.1.hops + 1) r.hops s.1)

        none_lesser : shown.lesser ≡ false → (u : ℕ) (near : Reached) → Offers A g lines u v near y → near.hops + 1 ≡ r.hops → r.parent ≤ u
        none_lesser h u near b e =
            let t = not_both (is_same A.no_worse y y) (nat_lt u r.parent && nat_eq (near.hops + 1) r.hops) (missed lesser h u near y b) (same_itself y) in
            let swapped : (nat_lt u r.parent ≡ true) → ⊥ = λ less. eqb-false (near.hops + 1) r.hops (not_both (nat_lt u r.parent) (nat_eq (near.hops + 1) r.hops) t less) e in
            ltb-false u r.parent (false_from_ne_true (nat_lt u r.parent) swapped)

        abbrev Judged : Option Reason → Type 0
        Judged o = IsFirstReason (IsSupported A g lines v r) Refuted o

        -- the evidence is that the line is right, or the first reason against it
        by_shown : (b s a n l : Bool) → shown.better ≡ b → shown.supported ≡ s → shown.astray ≡ a → shown.nearer ≡ n → shown.lesser ≡ l → Judged (reason_by shown)
        by_shown true s a n l e f h k m = rw e (is_beaten e, no_earlier 2 (omega arith) (λ lt. absurd (omega (arith, lt))) (λ lt. absurd (omega (arith, lt))) (λ lt. absurd (omega (arith, lt))))
        by_shown false false a n l e f h k m = rw (e, f) (no_parent f, no_earlier 3 (omega arith) (λ _. not_beaten e) (λ lt. absurd (omega (arith, lt))) (λ lt. absurd (omega (arith, lt))))
        by_shown false true true n l e f h k m = rw (e, f, h) (goes_astray h, no_earlier 4 (omega arith) (λ _. not_beaten e) (λ _ no. let p = from_parent f in no p.0 p.1) (λ lt. absurd (omega (arith, lt))))
        by_shown false true false true l e f h k m = rw (e, f, h, k) (has_nearer k, no_earlier 4 (omega arith) (λ _. not_beaten e) (λ _ no. let p = from_parent f in no p.0 p.1) (λ lt. absurd (omega (arith, lt))))
        by_shown false true false false true e f h k m = rw (e, f, h, k, m) (
          has_lesser m,
          no_earlier 5 (omega arith) (λ _. not_beaten e) (λ _ no. let p = from_parent f in no p.0 p.1) (λ _. same_hops h k),
        )
        by_shown false true false false false e f h k m = rw (e, f, h, k, m) (let p = from_parent f in record {
          value = y;
          code_is = code;
          near = p.0;
          from_parent = gives_value r.parent p.0 p.1;
          hops_are = hops_of_parent h p.0 p.1;
          not_beaten = none_better e;
          not_nearer = none_nearer k;
          not_lesser = none_lesser m;
        })

        pub evidence_judges : Judged (reason_by shown)
        evidence_judges = by_shown shown.better shown.supported shown.astray shown.nearer shown.lesser refl refl refl refl refl
