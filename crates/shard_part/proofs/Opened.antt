-- A part as it is opened keeps what tables and rings keep, and holds its share of the opening.
use Rattle.shard_part.proofs.Words.{◌≡◌, ◌≢◌, ℕ, zero, suc, ◌+◌, ◌<◌, ◌≤◌, Bool, true, false, not, ◌&&◌, eqb, Some, None, List, [], ◌∷◌, length, set, get_or, replicate, refl, sym, ap, ◌∙◌, subst, inl, inr, arith, length-set, get_or-set_same, get_or-set_other, eqb-true, eq-eqb, ne_eqb, cases_eq, cases_lt, Algebra, Idle, Message, Item, MessageOn, opening, put, is_idle, item_arc, item_of, one_if, put-at, put-other, one_if-most, head-entry, tail-entry, scatter, placed, busy_out, SetupData, network_of, place_in, IsPlanned, PartData, state_in, token_if, vertex_of, maker_of, IsArc, local_vertices, arcs_out, total, is, outs_weight, part_weight, All, at_place, in_flight, engages, idles, names, LocalInvariant, HoldsShareIn, queue_bound, outbox_bound, Room, Rows, idle_rows, abstraction, AreRowDeficits, RepInvariant, is_first, AreOffsets, first_items, opened_part, sum_at, sum_zero, own_apart, place_below, place_source, arcs_first}
use Rattle.std.proofs.lemmas.List.{get_or_past, get_or-replicate, length-replicate}

module _ {X : Type 0} where
  pub reads_same : (n : ℕ) (x : X) (j : ℕ) → get_or (replicate n x) j x ≡ x
  reads_same n x j = elim (cases_lt j n) [
    | inl l ↦ get_or-replicate n j x x l
    | inr l ↦ get_or_past (replicate n x) j x (let e = length-replicate n x in omega (arith, e))
  ]

  set_same : (n : ℕ) (x : X) (k : ℕ) → set (replicate n x) k x ≡ replicate n x
  set_same zero x k = refl
  set_same (suc n) x zero = refl
  set_same (suc n) x (suc k) = ap (λ ys. x ∷ ys) (set_same n x k)

  pub spread_same : (keys : List ℕ) (m : ℕ) (d : X) (n : ℕ) → scatter keys (replicate m d) d n ≡ replicate n d
  unfolding scatter
  spread_same [] m d n = refl
  spread_same (k ∷ keys) zero d n = refl
  spread_same (k ∷ keys) (suc m) d n = ap (λ ys. set ys k d) (spread_same keys m d n) ∙ set_same n d k

  -- one value at the front of rows that are all the same
  pub spread_front : (keys rest : List ℕ) (m : ℕ) (d x : X) (n : ℕ) → keys ≡ 0 ∷ rest → 1 ≤ m → scatter keys (set (replicate m d) 0 x) d n ≡ set (replicate n d) 0 x
  unfolding scatter
  spread_front keys rest zero d x n e l = absurd (omega arith)
  spread_front keys rest (suc m) d x n e l = ap (λ ks. scatter ks (set (replicate (suc m) d) 0 x) d n) e ∙ ap (λ ys. set ys 0 x) (spread_same rest m d n)

  pub front_read : (n : ℕ) (d x : X) → 1 ≤ n → get_or (set (replicate n d) 0 x) 0 d ≡ x
  front_read n d x l = get_or-set_same (replicate n d) 0 x d (let e = length-replicate n d in omega (arith, e, l))

  pub behind_read : (n : ℕ) (d x : X) (j : ℕ) → j ≢ 0 → get_or (set (replicate n d) 0 x) j d ≡ d
  behind_read n d x j nz = get_or-set_other (replicate n d) 0 j x d nz ∙ reads_same n d j

module _ {V : Type 0} where
  no_weight : (h : ℕ → Item V → ℕ) (k n : ℕ) → outs_weight h k (replicate n []) ≡ 0
  no_weight h k zero = refl
  no_weight h k (suc n) = let p = no_weight h (suc k) n in omega (arith, p)

module _ {S : Type 0} (t : SetupData S) (s : ℕ) (P : IsPlanned t s) where
  entry_arc : IsArc (network_of t) 0
  entry_arc = ((λ e. let h = head-entry t.diffusion.roads t.diffusion.source in let l = P.source.0 in omega (arith, e, h, l)), (λ n. absurd (n refl)))

module _ {S V : Type 0} (A : Algebra V) (t : SetupData S) (s : ℕ) (P : IsPlanned t s) where
  -- what arc 0 is, and what the others are
  entry_token : get_or (opened_part A t s).busy 0 false ≡ is_first t s
  entry_token = front_read (suc (length t.diffusion.roads.arcs)) false (is_first t s) (omega arith)

  other_token : (b : ℕ) → b ≢ 0 → get_or (opened_part A t s).busy b false ≡ false
  other_token b nz = behind_read (suc (length t.diffusion.roads.arcs)) false (is_first t s) b nz

  busy_alone : (v : ℕ) → busy_out (network_of t) v (state_in (opened_part A t s)) (suc (length t.diffusion.roads.arcs)) ≡ one_if (eqb ((network_of t).tail 0) v && is_first t s)
  busy_alone v =
      let f : ℕ → ℕ = λ b. one_if (eqb ((network_of t).tail b) v && not (is_idle (token_if {V = V} (get_or (opened_part A t s).busy b false)))) in
      let d = sum_at f (λ b. 0) 0 (suc (length t.diffusion.roads.arcs)) (omega arith)
      (λ b nz. ap (λ z. one_if (eqb ((network_of t).tail b) v && not (is_idle (token_if {V = V} z)))) (other_token b nz)
      ∙ and_none (eqb ((network_of t).tail b) v)) in
      let z = sum_zero (λ b. 0) (suc (length t.diffusion.roads.arcs)) (λ k. refl) in
      let e : f 0 ≡ one_if (eqb ((network_of t).tail 0) v && is_first t s) = ap
      (λ z. one_if (eqb ((network_of t).tail 0) v && not (is_idle (token_if {V = V} z)))) entry_token
      ∙ ap (λ z. one_if (eqb ((network_of t).tail 0) v && z)) (busy_is (is_first t s)) in
      omega (arith, d, z, e)
    where
      and_none : (x : Bool) → one_if (x && false) ≡ 0
      and_none true = refl
      and_none false = refl

      busy_is : (x : Bool) → not (is_idle (token_if {V = V} x)) ≡ x
      busy_is true = refl
      busy_is false = refl

  opened_counted : (r : Rows V) → r.deficits ≡ set (replicate (length (local_vertices t s)) 0) 0 (one_if (is_first t s)) → AreRowDeficits (opened_part A t s) r
  opened_counted r e zero l =
      ap (λ xs. get_or xs 0 0) e ∙ front_read (length (local_vertices t s)) 0 (one_if (is_first t s)) (omega arith)
      ∙ sym (busy_alone 0 ∙ ap (λ z. one_if (z && is_first t s)) (eq-eqb ((network_of t).tail 0) 0 (tail-entry t.diffusion.roads)) ∙ and_first (is_first t s))
    where
      and_first : (x : Bool) → one_if (true && x) ≡ one_if x
      and_first x = refl
  opened_counted r e (suc j) l =
      ap (λ xs. get_or xs (suc j) 0) e ∙ behind_read (length (local_vertices t s)) 0 (one_if (is_first t s)) (suc j) (λ z. omega (arith, z))
      ∙ sym (busy_alone (get_or (local_vertices t s) (suc j) 0)
      ∙ ap (λ z. one_if (z && is_first t s)) (ne_eqb ((network_of t).tail 0) (get_or (local_vertices t s) (suc j) 0)
      (λ z. own_apart t s 0 (suc j) (omega arith) l (sym (tail-entry t.diffusion.roads) ∙ z))))

  -- nothing but the first message weighs
  pub opened_weight : (h : ℕ → Item V → ℕ) → part_weight h (opened_part A t s) ≡ total (h s) (first_items A (is_first t s))
  opened_weight h = let z = no_weight h 0 t.plan.shards in omega (arith, z)

  opened_sound : LocalInvariant (network_of t) (place_in t) (opened_part A t s)
  opened_sound = record {
    once = λ b. (let w = opened_weight (λ _ j. is b (item_arc j)) in
        let g : engages (network_of t) (place_in t) s (state_in (opened_part A t s)) b
        ≡ 0 = ap (λ z. one_if (eqb (place_in t ((network_of t).head b)) s && names z b))
        (reads_same (suc t.diffusion.roads.vertices) None ((network_of t).head b)) ∙ none (eqb (place_in t ((network_of t).head b)) s) in
        let k = alone b (is_first t s) refl in omega (arith, w, g, k));
    leads = λ v e m q. absurd (let z : None ≡ Some e = sym (reads_same (suc t.diffusion.roads.vertices) None v) ∙ q in cc);
    here = first_here (is_first t s) refl;
    gone = λ k. subst (All (λ i. (place_in t (vertex_of (network_of t) i) ≡ k) × (place_in t (maker_of (network_of t) i) ≡ s)
        × IsArc (network_of t) (item_arc i))) (sym (reads_same t.plan.shards [] k)) tt;
    wide = λ v. (let b = place_below t s P v in let l = length-replicate {A = List (Item V)} t.plan.shards [] in omega (arith, b, l));
  }
    where
      none : (x : Bool) → one_if (x && false) ≡ 0
      none true = refl
      none false = refl

      alone : (b : ℕ) (h : Bool) → h ≡ is_first t s → total (λ j. is b (item_arc j)) (first_items A h) + idles (network_of t) (place_in t) s (state_in (opened_part A t s)) b ≤ 1
      alone b false e = let m = one_if-most (eqb (place_in t ((network_of t).tail b)) s && is_idle ((state_in (opened_part A t s)).token b)) in omega (arith, m)
      alone b true e = elim (cases_eq b 0) [
        | inl z ↦ (let i : idles (network_of t) (place_in t) s (state_in (opened_part A t s)) b ≡ 0 = ap (λ a. idles (network_of t) (place_in t) s (state_in (opened_part A t s)) a) z
            ∙ ap (λ y. one_if (eqb (place_in t ((network_of t).tail 0)) s && is_idle (token_if {V = V} y))) (entry_token ∙ sym e) ∙ none (eqb (place_in t ((network_of t).tail 0)) s) in
            let m = one_if-most (eqb b 0) in omega (arith, i, m))
        | inr nz ↦ (let m = one_if-most (eqb (place_in t ((network_of t).tail b)) s && is_idle ((state_in (opened_part A t s)).token b)) in let q = ap one_if (ne_eqb b 0 nz) in omega (arith, m, q))
      ]

      first_here : (h : Bool) → h ≡ is_first t s → All (λ i. (place_in t (vertex_of (network_of t) i) ≡ s) × IsArc (network_of t) (item_arc i)) (first_items A h)
      first_here false e = tt
      first_here true e = ((place_source t s P ∙ eqb-true (place_in t 0) s (sym e), entry_arc t s P), tt)

  -- the tables are the rows of this part
  pub opened_seen : (r : Rows V) (offsets : List ℕ) (arcs : ℕ) (queue : List (Item V)) (outs : List (List (Item V))) (sent : ℕ)
      → AreOffsets (network_of t) (local_vertices t s) offsets arcs → r ≡ idle_rows (local_vertices t s) offsets arcs (is_first t s) →
      queue ≡ first_items A (is_first t s) → outs ≡ replicate t.plan.shards [] → sent ≡ one_if (is_first t s) → abstraction t s r queue outs sent 0 0 0 ≡ opened_part A t s
  opened_seen r offsets arcs queue outs sent B e q o n = λ i. record {
    setup = t;
    shard = s;
    labels = (ap (λ (u : Rows V). scatter (local_vertices t s) u.labels None (suc t.diffusion.roads.vertices)) e
        ∙ spread_same (local_vertices t s) (length (local_vertices t s)) None (suc t.diffusion.roads.vertices)) i;
    engagers = (ap (λ (u : Rows V). scatter (local_vertices t s) u.engagers None (suc t.diffusion.roads.vertices)) e
        ∙ spread_same (local_vertices t s) (length (local_vertices t s)) None (suc t.diffusion.roads.vertices)) i;
    busy = (ap (λ (u : Rows V). scatter (arcs_out (network_of t) (local_vertices t s)) u.busy false (suc (length t.diffusion.roads.arcs))) e
        ∙ spread_front (arcs_out (network_of t) (local_vertices t s)) (arcs_out (network_of t) (placed (place_in t) s 1 t.diffusion.roads.vertices))
        arcs false (is_first t s) (suc (length t.diffusion.roads.arcs)) (arcs_first t s P)
        (let l = ap length (arcs_first t s P) in let c = B.count_is in omega (arith, l, c))) i;
    told = (ap (λ (u : Rows V). scatter (arcs_out (network_of t) (local_vertices t s)) u.told None (suc (length t.diffusion.roads.arcs))) e
        ∙ spread_same (arcs_out (network_of t) (local_vertices t s)) arcs None (suc (length t.diffusion.roads.arcs))) i;
    queue = q i;
    outs = o i;
    sent = n i;
    delivered = 0;
    signalled = 0;
    accepted = 0;
  }

  pub opened_stored : (r : Rows V) (offsets : List ℕ) (arcs : ℕ) (queue : List (Item V)) (outs : List (List (Item V))) (sent : ℕ) (n : Room) (ns : List ℕ)
      → AreOffsets (network_of t) (local_vertices t s) offsets arcs → r ≡ idle_rows (local_vertices t s) offsets arcs (is_first t s) →
      queue ≡ first_items A (is_first t s) → outs ≡ replicate t.plan.shards [] → sent ≡ one_if (is_first t s) →
      n.order ≡ t.order → n.capacity ≡ queue_bound (network_of t) (place_in t) s → length ns ≡ t.plan.shards → ((k : ℕ) → k ≢ s → k < t.plan.shards → get_or ns k 0 ≡ outbox_bound (network_of t) (place_in t) s k) →
      RepInvariant (abstraction t s r queue outs sent 0 0 0) r n ns
  opened_stored r offsets arcs queue outs sent n ns B e q o c order room long caps =
      let E = opened_seen r offsets arcs queue outs sent B e q o c in
      subst (λ (u : PartData S V). RepInvariant u r n ns) (sym E) (record {
        planned = P;
        sized = record {
          own = ap (λ (u : Rows V). u.own) e;
          offsets = ap (λ (u : Rows V). length u.offsets) e ∙ B.long;
          starts = λ j l. ap (λ (u : Rows V). get_or u.offsets j 0) e ∙ B.starts j l;
          labels = ap (λ (u : Rows V). length u.labels) e ∙ length-replicate _ _;
          engagers = ap (λ (u : Rows V). length u.engagers) e ∙ length-replicate _ _;
          deficits = ap (λ (u : Rows V). length u.deficits) e ∙ length-set (replicate (length (local_vertices t s)) 0) 0 (one_if (is_first t s)) ∙ length-replicate _ _;
          busy = ap (λ (u : Rows V). length u.busy) e ∙ length-set (replicate arcs false) 0 (is_first t s) ∙ length-replicate _ _ ∙ B.count_is;
          told = ap (λ (u : Rows V). length u.told) e ∙ length-replicate _ _ ∙ B.count_is;
        };
        seen = record {
          labels = sym (ap (λ (u : PartData S V). u.labels) E);
          engagers = sym (ap (λ (u : PartData S V). u.engagers) E);
          busy = sym (ap (λ (u : PartData S V). u.busy) E);
          told = sym (ap (λ (u : PartData S V). u.told) E);
        };
        counts = opened_counted r (ap (λ (u : Rows V). u.deficits) e);
        sound = opened_sound;
        roomy = record {
          order = order;
          queue = room;
          boxes = length-replicate {A = List (Item V)} t.plan.shards [];
          rings = long;
          outs = caps;
        };
        tallied = ((let m = one_if-most (is_first t s) in omega (arith, m)), omega arith, omega arith, omega arith);
      })

  -- nor does anything but it in the opening
  pub opening_weight : (h : ℕ → Item V → ℕ) → in_flight (network_of t) (place_in t) (opening A (network_of t)) h ≡ h (place_in t 0) (MessageOn 0 A.origin)
  opening_weight h =
      let f : ℕ → ℕ = λ b. total (at_place (network_of t) (place_in t) h) (item_of b (put (λ _. Idle) 0 (Message A.origin) b)) in
      let d = sum_at f (λ b. 0) 0 (suc (length t.diffusion.roads.arcs)) (omega arith)
      (λ b nz. ap (λ k. total (at_place (network_of t) (place_in t) h) (item_of b k)) (put-other (λ _. Idle) 0 (Message A.origin) b nz)) in
      let z = sum_zero (λ b. 0) (suc (length t.diffusion.roads.arcs)) (λ k. refl) in
      let o : f 0 ≡ h (place_in t ((network_of t).head 0)) (MessageOn 0 A.origin) + 0 = ap
      (λ k. total (at_place (network_of t) (place_in t) h) (item_of 0 k)) (put-at (λ _. Idle) 0 (Message A.origin) 0 refl) in
      let p = ap (λ y. h y (MessageOn 0 A.origin)) (place_source t s P) in omega (arith, d, z, o, p)

  -- and it holds its share of the opening
  pub opened_holds : HoldsShareIn A (network_of t) (place_in t) (opening A (network_of t)) (opened_part A t s)
  opened_holds = record {
    tables = record {
      agree = record {
        label = λ v m. reads_same (suc t.diffusion.roads.vertices) None v;
        engager = λ v m. reads_same (suc t.diffusion.roads.vertices) None v;
        told = λ b m. reads_same (suc (length t.diffusion.roads.arcs)) None b;
        idle = λ b m. elim (cases_eq b 0) [
          | inl z ↦ ap (λ y. is_idle (token_if {V = V} (get_or (opened_part A t s).busy y false))) z
              ∙ ap (λ y. is_idle (token_if {V = V} y)) (entry_token ∙ first_of b z m)
              ∙ sym (ap is_idle (put-at (λ _. Idle) 0 (Message A.origin) b z))
          | inr nz ↦ ap (λ y. is_idle (token_if {V = V} y)) (other_token b nz) ∙ sym (ap is_idle (put-other (λ _. Idle) 0 (Message A.origin) b nz))
        ];
      };
      wide = λ v. (let b = place_below t s P v in let l = length-replicate {A = List (Item V)} t.plan.shards [] in omega (arith, b, l));
    };
    weighs = λ h. (let w = opened_weight h in let f = opening_weight h in let k = first_weight h (is_first t s) refl in omega (arith, w, f, k));
  }
    where
      first_of : (b : ℕ) → b ≡ 0 → eqb (place_in t ((network_of t).tail b)) s ≡ true → is_first t s ≡ true
      first_of b z m = ap (λ y. eqb (place_in t y) s) (sym (ap (network_of t).tail z ∙ tail-entry t.diffusion.roads)) ∙ m

      first_weight : (h : ℕ → Item V → ℕ) (f : Bool) → f ≡ is_first t s → total (h s) (first_items A f) ≤ h (place_in t 0) (MessageOn 0 A.origin)
      first_weight h false e = omega arith
      first_weight h true e = let p = ap (λ y. h y (MessageOn 0 A.origin)) (eqb-true (place_in t 0) s (sym e)) in omega (arith, p)
