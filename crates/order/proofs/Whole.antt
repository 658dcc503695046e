-- the promise over whole runs
use Rattle.std.proofs.Common.{◌≡◌, ℕ, zero, suc, ◌+◌, ◌-◌, ◌<◌, ◌≤◌, Bool, true, false, cond, ◌||◌, eqb, ltb, ◌⊎◌, ◌↔◌, List, [], ◌∷◌, ◌++◌, map, length, get_or, take, replicate, Some, Ok, Err, filter, Option, sym, refl, ap, ◌∙◌, subst, inl, inr, append_assoc, append-nil, not-suc-le-zero, arith, length-append}
use lib.ListN.{length-map, length-replicate}
use lib.Seq.{append_snoc}
use Rattle.std.specs.List.{All, slice_get}
use Rattle.std.proofs.lemmas.Bool.{eq-eqb, eqb-true, ltb-false, cases_lt}
use Rattle.std.proofs.Math.Seq.{take-append_seam, drop-append_seam}
use Rattle.std.specs.List.Sorted.{IsNonDecreasing, IsNonDecreasingBy}
use Rattle.std.proofs.lemmas.List.{get_or-map, map-append}
use Rattle.std.proofs.lemmas.List.Sorted.{IsNonDecreasingBy-short, IsNonDecreasingBy-take, IsNonDecreasingBy-drop, IsNonDecreasingBy-from_default}
use Rattle.std.proofs.lemmas.List.Elements.{filter-append, All-nil, All-weaker, All-filter, filter_passes}
use Rattle.std.proofs.lemmas.Simd.{map-map}
use Rattle.refusals.specs.Said.{plain}
use Rattle.order.specs.declared.state.FeedState.{FeedState}
use Rattle.order.specs.declared.state.FeedState.TheVariants.{Idle, Holding, Closing, Closed}
use Rattle.calls.specs.declared.call.Handed.{Handed}
use Rattle.leap.specs.Table.{Table, Sound}
use Rattle.clocks.specs.Counts.{Count}
use Rattle.clocks.specs.Banks.{BankMeaning, LawfulBank}
use Rattle.order.specs.Desk.{Desk, Event, Take, feed_state, admitted, admits, made, Step, Run}
use Rattle.order.specs.History.{Record, handed, accepted, given, accepted_of, given_of, waiting, waiting_in, Waits}
use Rattle.order.specs.Promise.{TrueTick, OrderKept}
use Rattle.order.proofs.Rows.{nth_some, nth_map_front, some_same, all_nth, nth_seam, nth_after, kept_map}
use Rattle.order.proofs.Steps.{take_ok}
use Rattle.order.proofs.Kept.{pair, of_feed, tick_of, Good, Kept, accepted-++, step_keeps, First, first_of, in_range}

waits_some : {T : Type 0} (v : FeedState) (o : Option T) → 0 < length (waiting_in v o) → Waits v
waits_some Idle o h = absurd (not-suc-le-zero h)
waits_some (Holding t) o h = tt
waits_some (Closing t) o h = tt
waits_some Closed o h = absurd (not-suc-le-zero h)

some_waits : {T : Type 0} (v : FeedState) (x : T) → Waits v → 0 < length (waiting_in v (Some x))
some_waits Idle x h = elim h [ ]
some_waits (Holding t) x h = omega arith
some_waits (Closing t) x h = omega arith
some_waits Closed x h = elim h [ ]

-- ticks that rise along records rise as a list
ticks_rise : {T : Type 0} (rs : List (Record T)) → IsNonDecreasingBy tick_of rs → IsNonDecreasing (map tick_of rs)
ticks_rise [] h = IsNonDecreasingBy-short (λ n. n) [] (omega arith)
ticks_rise (r ∷ rs) h = IsNonDecreasingBy-from_default (λ n. n) (map tick_of (r ∷ rs)) r.tick (λ i j l k.
    let inside : j < length (r ∷ rs) = omega (arith, length-map (r ∷ rs) tick_of) in
    rw (get_or-map tick_of (r ∷ rs) i r r.tick (omega arith), get_or-map tick_of (r ∷ rs) j r r.tick inside) (h i j r l inside))

-- ---- runs

made_wait : {T : Type 0} (n f : ℕ) (o : Option T) → [] ≡ waiting_in (get_or (replicate n Idle) f Closed) o
made_wait zero f o = refl
made_wait (suc n) zero o = refl
made_wait (suc n) (suc f) o = made_wait n f o

-- a joiner has no more feeds than there are slots, and than its bank has
admits_few : (n k : ℕ) → (admits n k ≤ k) × (admits n k ≤ n)
admits_few n k = go (ltb n 1 || ltb 64 n) (ltb k n) refl
  where
    go : (a b : Bool) → ltb k n ≡ b → (admitted n (cond a (Err (plain 2)) (cond b (Err (plain 3)) (Ok tt))) ≤ k) × (admitted n (cond a (Err (plain 2)) (cond b (Err (plain 3)) (Ok tt))) ≤ n)
    go true b e = (omega arith, omega arith)
    go false true e = (omega arith, omega arith)
    go false false e = (ltb-false k n e, omega arith)

module _ {T : Type 0} (m : BankMeaning) (law : LawfulBank m) (start : Table) (sound_start : Sound start) where
  made_kept : (slots : List T) → Kept m [] (made m start slots)
  made_kept slots = record {
    gone = [];
    left = [];
    split = refl;
    gave = refl;
    queue = refl;
    wait = λ f. made_wait (admits m.feeds (length slots)) f (slice_get slots f);
    rise = IsNonDecreasingBy-short tick_of [] (omega arith);
    past = All-nil _;
    good = All-nil _;
    sound = sound_start;
    room = let h = admits_few m.feeds (length slots) in omega (arith, length-replicate (admits m.feeds (length slots)) Idle);
  }

  run_keeps : (vs ws : List (Event T)) (d e : Desk T) → Kept m vs d → Run m d ws e → Kept m (vs ++ ws) e
  run_keeps vs [] d e k r = let t = subst (Kept m vs) (sym r) k in subst (λ z. Kept m z e) (sym (append-nil vs)) t
  run_keeps vs (w ∷ ws) d e k r =
      subst (λ z. Kept m z e) (append_snoc vs w ws) (run_keeps (vs ++ w ∷ []) ws r.0 e (step_keeps m vs d k law w r.0 r.1) r.2)

  run_split : (vs ws : List (Event T)) (d e : Desk T) → Run m d (vs ++ ws) e → (mid : Desk T) × Run m d vs mid × Run m mid ws e
  run_split [] ws d e r = (d, refl, r)
  run_split (v ∷ vs) ws d e r =
      let t = run_split vs ws r.0 e r.2 in
      (t.0, (r.0, r.1, t.1), t.2)

  -- ---- a run that has ended
  module _ (vs : List (Event T)) (d : Desk T) (k : Kept m vs d) where
    -- what holds of each accepted record holds of the nth of a feed
    nth_accepted : (P : Record T → Type 0) → All P (k.gone ++ k.left) → (f n : ℕ) (r : Record T) → slice_get (accepted_of f vs) n ≡ Some r → P r × (r.feed ≡ f)
    nth_accepted P h f n r e =
        let all : All P (accepted vs) = subst (All P) (sym k.split) h in (
          all_nth P (accepted_of f vs) n r (All-filter (λ q. eqb q.feed f) P (accepted vs) all) e,
          eqb-true r.feed f (all_nth (λ q. eqb q.feed f ≡ true) (accepted_of f vs) n r (filter_passes (λ q. eqb q.feed f) (accepted vs)) e),
        )

    read_still : (f n : ℕ) (r : Record T) → slice_get (accepted_of f vs) n ≡ Some r → (f < m.feeds) × ((m.scale_of f).reads d.joiner.table r.stamp ≡ Ok r.tick)
    read_still f n r e =
        let h = nth_accepted (Good m d.joiner) k.good f n r e in
        (subst (λ z. z < m.feeds) h.1 h.0.1, subst (λ z. (m.scale_of z).reads d.joiner.table r.stamp ≡ Ok r.tick) h.1 h.0.2)

    near_true : (f n t : ℕ) (r : Record T) → slice_get (accepted_of f vs) n ≡ Some r → TrueTick m d f r t → (r.tick ≤ t) × (t - r.tick ≤ (m.scale_of f).loss)
    near_true f n t r e tr =
        let q = read_still f n r e in
        let w = (law f q.0).within_loss k.sound tr q.1 in
        (w.0, omega arith)

    -- the first of the accepted are those that were given
    given_first : given vs ≡ map handed (take (length (given vs)) (accepted vs))
    given_first =
        let n : length (given vs) ≡ length k.gone = ap length k.gave ∙ length-map k.gone handed in
        k.gave ∙ ap (map handed) (sym (ap (λ z. take z (accepted vs)) n ∙ ap (take (length k.gone)) k.split ∙ take-append_seam k.gone k.left))

    all_ours : All (λ r. (r.feed < length d.joiner.feeds) × Count r.tick) (accepted vs)
    all_ours = subst (All (λ r. (r.feed < length d.joiner.feeds) × Count r.tick)) (sym k.split)
        (All-weaker (Good m d.joiner) (λ r. (r.feed < length d.joiner.feeds) × Count r.tick)
        (λ r h. (h.0, (law r.feed h.1).reads_counts k.sound h.2)) (k.gone ++ k.left) k.good)

    given_is : (f : ℕ) → given_of f vs ≡ map handed (of_feed f k.gone)
    given_is f = ap (filter (λ g. eqb g.feed f)) k.gave ∙ kept_map handed (λ r. eqb r.feed f) (λ g. eqb g.feed f) (λ r. refl) k.gone

    accepted_is : (f : ℕ) → accepted_of f vs ≡ of_feed f k.gone ++ of_feed f k.left
    accepted_is f = ap (of_feed f) k.split ∙ filter-append (λ r. eqb r.feed f) k.gone k.left

    turn : (f : ℕ) → map (λ g. (g.tick, g.body)) (given_of f vs) ++ waiting d f ≡ map (λ r. (r.tick, r.body)) (accepted_of f vs)
    turn f =
        ap (λ z. map (λ g. (g.tick, g.body)) z ++ waiting d f) (given_is f)
        ∙ ap (λ z. z ++ waiting d f) (map-map (λ g. (g.tick, g.body)) handed (of_feed f k.gone))
        ∙ ap (λ z. map pair (of_feed f k.gone) ++ z) (sym (k.wait f))
        ∙ sym (map-append pair (of_feed f k.gone) (of_feed f k.left))
        ∙ ap (map pair) (sym (accepted_is f))

    given_tick : (f n : ℕ) (r : Record T) (g : Handed T) → slice_get (accepted_of f vs) n ≡ Some r → slice_get (given_of f vs) n ≡ Some g → handed r ≡ g
    given_tick f n r g a b =
        nth_map_front handed (of_feed f k.gone) (of_feed f k.left) n r g
        (ap (λ z. slice_get z n) (sym (given_is f)) ∙ b) (ap (λ z. slice_get z n) (sym (accepted_is f)) ∙ a)

    counts : (f : ℕ) → length (accepted_of f vs) ≡ length (given_of f vs) + length (waiting d f)
    counts f =
        ap length (accepted_is f) ∙ length-append (of_feed f k.gone) (of_feed f k.left)
        ∙ ap (λ z. z + length (of_feed f k.left)) (sym (length-map (of_feed f k.gone) handed) ∙ ap length (sym (given_is f)))
        ∙ ap (λ z. length (given_of f vs) + z) (sym (length-map (of_feed f k.left) pair) ∙ ap length (k.wait f))

    held_waits : (f : ℕ) → Waits (feed_state d.joiner f) → 0 < length (waiting d f)
    held_waits f w =
        let i : f < length d.joiner.feeds = in_range d.joiner.feeds f w in
        let l = k.room in
        let o = nth_some d.slots f (omega arith) in
        subst (λ z. 0 < length (waiting_in (feed_state d.joiner f) z)) (sym o.1) (some_waits (feed_state d.joiner f) o.0 w)

    waits_held : (f : ℕ) → (length (given_of f vs) < length (accepted_of f vs)) ↔ Waits (feed_state d.joiner f)
    waits_held f = (
      λ h. waits_some (feed_state d.joiner f) (slice_get d.slots f) (let c = counts f in omega arith),
      λ w. let p = held_waits f w in let c = counts f in omega arith,
    )

    fall_never : IsNonDecreasing (map (λ g. g.tick) (given vs))
    fall_never =
        let rise : IsNonDecreasingBy tick_of k.gone = subst (IsNonDecreasingBy tick_of) (take-append_seam k.gone k.left) (IsNonDecreasingBy-take tick_of (length k.gone) (k.gone ++ k.left) k.rise) in
        subst IsNonDecreasing (sym (ap (map (λ g. g.tick)) k.gave ∙ map-map (λ g. g.tick) handed k.gone)) (ticks_rise k.gone rise)

  -- ---- the moment at which a take hands out a record
  module _ (before after : List (Event T)) (v : Event T) (mid d : Desk T) (k : Kept m before mid) (e : Kept m (before ++ v ∷ after) d) (g : Handed T) (o : First m before mid k g) where
    abbrev more : List (Record T)
    more = o.tail ++ accepted (v ∷ after)

    seam : accepted (before ++ v ∷ after) ≡ k.gone ++ (o.head ∷ more)
    seam =
        accepted-++ before (v ∷ after) ∙ ap (λ z. z ++ accepted (v ∷ after)) k.split
        ∙ append_assoc k.gone k.left (accepted (v ∷ after)) ∙ ap (λ z. k.gone ++ (z ++ accepted (v ∷ after))) o.is

    seam_of : (f : ℕ) → accepted_of f (before ++ v ∷ after) ≡ of_feed f k.gone ++ of_feed f (o.head ∷ more)
    seam_of f = ap (of_feed f) seam ∙ filter-append (λ r. eqb r.feed f) k.gone (o.head ∷ more)

    climbing : All (λ q. tick_of o.head ≤ tick_of q) (o.head ∷ more)
    climbing =
        let rise : IsNonDecreasingBy tick_of (k.gone ++ (o.head ∷ more)) = subst (IsNonDecreasingBy tick_of) (sym e.split ∙ seam) e.rise in
        let left : IsNonDecreasingBy tick_of (o.head ∷ more) = subst (IsNonDecreasingBy tick_of) (drop-append_seam k.gone (o.head ∷ more)) (IsNonDecreasingBy-drop tick_of (length k.gone) (k.gone ++ (o.head ∷ more)) rise) in
        λ i q inside. left 0 i q (omega arith) inside

    gone_count : (f : ℕ) → length (given_of f before) ≡ length (of_feed f k.gone)
    gone_count f = ap length (given_is before mid k f) ∙ length-map (of_feed f k.gone) handed

    -- it is the first of those that were left
    head_is : (f n : ℕ) (r : Record T) → slice_get (accepted_of f (before ++ v ∷ after)) n ≡ Some r → g.feed ≡ f → n ≡ length (given_of f before) → o.head ≡ r
    head_is f n r a b c =
        let same : o.head.feed ≡ f = ap (λ z. z.feed) o.same ∙ b in
        let is : of_feed f (o.head ∷ more) ≡ o.head ∷ of_feed f more = ap (λ t. cond t (o.head ∷ of_feed f more) (of_feed f more)) (eq-eqb o.head.feed f same) in
        some_same (sym (nth_seam (of_feed f k.gone) o.head (of_feed f more))
        ∙ ap (λ z. slice_get (of_feed f k.gone ++ z) (length (of_feed f k.gone))) (sym is)
        ∙ ap (λ z. slice_get z (length (of_feed f k.gone))) (sym (seam_of f))
        ∙ ap (λ z. slice_get (accepted_of f (before ++ v ∷ after)) z) (sym (c ∙ gone_count f)) ∙ a)

    -- a record that has not been handed out yet has no earlier tick
    not_before : (f n : ℕ) (r : Record T) → slice_get (accepted_of f (before ++ v ∷ after)) n ≡ Some r → length (given_of f before) ≤ n → o.head.tick ≤ r.tick
    not_before f n r a l =
        nth_after (λ q. tick_of o.head ≤ tick_of q) (of_feed f k.gone) (of_feed f (o.head ∷ more)) n r
        (All-filter (λ q. eqb q.feed f) (λ q. tick_of o.head ≤ tick_of q) (o.head ∷ more) climbing)
        (let c = gone_count f in omega arith)
        (ap (λ z. slice_get z n) (sym (seam_of f)) ∙ a)

  first_at : (before : List (Event T)) (mid next : Desk T) (k : Kept m before mid) (g : Handed T) → Step m mid (Take (Ok g)) next → First m before mid k g
  first_at before mid next k g h = first_of m before mid k g (take_ok mid.joiner mid.slots g h.0) k.left refl

  module _ (slots : List T) where
    kept_after : (vs : List (Event T)) (d : Desk T) → Run m (made m start slots) vs d → Kept m vs d
    kept_after vs d run = run_keeps [] vs (made m start slots) d (made_kept slots) run

    true_order : (before after : List (Event T)) (g : Handed T) (d : Desk T) → Run m (made m start slots) (before ++ Take (Ok g) ∷ after) d →
        (f n t : ℕ) (r : Record T) → slice_get (accepted_of f (before ++ Take (Ok g) ∷ after)) n ≡ Some r → TrueTick m d f r t →
        (f' n' t' : ℕ) (r' : Record T) → slice_get (accepted_of f' (before ++ Take (Ok g) ∷ after)) n' ≡ Some r' → TrueTick m d f' r' t' →
        t' + (m.scale_of f).loss < t → g.feed ≡ f → n ≡ length (given_of f before) → n' < length (given_of f' before)
    true_order before after g d run f n t r a tr f' n' t' r' a' tr' far b c =
        let vs = before ++ Take (Ok g) ∷ after in
        let e : Kept m vs d = kept_after vs d run in
        let s = run_split before (Take (Ok g) ∷ after) (made m start slots) d run in
        let k : Kept m before s.0 = kept_after before s.0 s.1 in
        let o : First m before s.0 k g = first_at before s.0 s.2.0 k g s.2.1 in
        let here : o.head.tick ≡ r.tick = ap tick_of (head_is before after (Take (Ok g)) s.0 d k e g o f n r a b c) in
        let near = near_true vs d e f n t r a tr in
        let near' = near_true vs d e f' n' t' r' a' tr' in
        go vs s.0 k o e here near near' (cases_lt n' (length (given_of f' before)))
      where
        go : (vs : List (Event T)) (mid : Desk T) (k : Kept m before mid) (o : First m before mid k g) (e : Kept m (before ++ Take (Ok g) ∷ after) d) →
            o.head.tick ≡ r.tick → (r.tick ≤ t) × (t - r.tick ≤ (m.scale_of f).loss) → (r'.tick ≤ t') × (t' - r'.tick ≤ (m.scale_of f').loss) →
            (n' < length (given_of f' before)) ⊎ (length (given_of f' before) ≤ n') → n' < length (given_of f' before)
        go vs mid k o e here near near' (inl h) = h
        go vs mid k o e here near near' (inr h) =
            let low = not_before before after (Take (Ok g)) mid d k e g o f' n' r' a' h in
            absurd (let c : ⊥ = omega arith in c)

    -- the promise
    pub order_kept : (vs : List (Event T)) (d : Desk T) → Run m (made m start slots) vs d → OrderKept m vs d
    order_kept vs d run = record {
      near_true_ticks = λ f n t r g a b tr.
          subst (λ z. (z.tick ≤ t) × (t - z.tick ≤ (m.scale_of f).loss)) (given_tick vs d (kept_after vs d run) f n r g a b) (near_true vs d (kept_after vs d run) f n t r a tr);
      in_true_order = λ f n t r a tr f' n' t' r' a' tr' far before after v is h.
          let same : vs ≡ before ++ Take (Ok h.0) ∷ after = is ∙ ap (λ z. before ++ z ∷ after) h.1 in
          true_order before after h.0 d (subst (λ z. Run m (made m start slots) z d) same run)
          f n t r (ap (λ z. slice_get (accepted_of f z) n) (sym same) ∙ a) tr f' n' t' r' (ap (λ z. slice_get (accepted_of f' z) n') (sym same) ∙ a') tr' far h.2 h.3;
      ticks_never_fall = fall_never vs d (kept_after vs d run);
      all_in_turn = turn vs d (kept_after vs d run);
      waits_when_held = waits_held vs d (kept_after vs d run);
      still_read = λ f n r a. (read_still vs d (kept_after vs d run) f n r a).1;
      first_come = given_first vs d (kept_after vs d run);
      ours = all_ours vs d (kept_after vs d run);
      table_sound = (kept_after vs d run).sound;
    }
