-- what every run keeps: the records handed out and then those of the queue are the accepted ones, in order
use Rattle.std.proofs.Common.{◌≡◌, ℕ, zero, suc, ◌-◌, ◌<◌, ◌≤◌, cond, eqb, ◌⊎◌, List, [], ◌∷◌, ◌++◌, map, length, get_or, set, Some, Ok, Err, filter, Option, Result, sym, refl, ap, ◌∙◌, subst, inl, inr, append_assoc, append-nil, arith, length-set, get_or-set_other, get_or-set_same}
use lib.Seq.{append_snoc}
use Rattle.std.specs.List.{All, slice_get}
use Rattle.std.specs.List.Sorted.{IsNonDecreasingBy}
use Rattle.std.proofs.lemmas.Bool.{eq-eqb, ne_eqb, cases_eq}
use Rattle.std.proofs.lemmas.Grind.{flat_map-append}
use Rattle.std.proofs.lemmas.List.{map-append}
use Rattle.std.proofs.lemmas.List.Sorted.{IsNonDecreasingBy-push}
use Rattle.std.proofs.lemmas.List.Elements.{filter-append, All-push, All-weaker}
use Rattle.refusals.specs.Said.{Said}
use Rattle.order.specs.declared.state.FeedState.{FeedState}
use Rattle.order.specs.declared.state.FeedState.TheVariants.{Idle, Holding, Closing, Closed}
use Rattle.calls.specs.declared.call.Handed.{Handed}
use Rattle.leap.specs.declared.bulletin.Bulletin.{Bulletin}
use Rattle.leap.specs.Table.{Sound}
use Rattle.leap.specs.Bulletin.{judged}
use Rattle.clocks.specs.Forms.{Stamp}
use Rattle.clocks.specs.Banks.{BankMeaning, LawfulBank}
use Rattle.order.specs.Desk.{State, Desk, Event, Put, Take, Close, Renew, Elsewhere, feed_state, put_answer, after_put, close_plan, closed_as, renewed_by, TakeAnswer, held, released, rest, after_take, Step}
use Rattle.order.specs.History.{Record, handed, accepted_by, given_by, accepted, given, waiting, waiting_in, slot, Waits}
use Rattle.order.proofs.Rows.{head_same, tail_same, cons≢nil, nth_set_same, nth_set_other}
use Rattle.order.proofs.Steps.{Puts, put_ok, close_ok, close_same, after_sound, after_keeps, Takes, take_ok}

abbrev pub pair : {T : Type 0} → Record T → ℕ × T
pair r = (r.tick, r.body)

abbrev pub of_feed : {T : Type 0} → ℕ → List (Record T) → List (Record T)
of_feed f rs = filter (λ r. eqb r.feed f) rs

abbrev pub tick_of : {T : Type 0} → Record T → ℕ
tick_of r = r.tick

abbrev pub feed_of : {T : Type 0} → Record T → ℕ
feed_of r = r.feed

-- what is known of an accepted record: its feed is the joiner's and the bank's, and its stamp reads as its tick
abbrev pub Good : {T : Type 0} → BankMeaning → State → Record T → Type 0
Good m s r = (r.feed < length s.feeds) × (r.feed < m.feeds) × ((m.scale_of r.feed).reads s.table r.stamp ≡ Ok r.tick)

pub record Kept {T : Type 0} (m : BankMeaning) (vs : List (Event T)) (d : Desk T) : Type 0 where
  pub gone : List (Record T)
  pub left : List (Record T)
  pub split : accepted vs ≡ gone ++ left
  pub gave : given vs ≡ map handed gone
  pub queue : d.joiner.queue ≡ map feed_of left
  pub wait : (f : ℕ) → map pair (of_feed f left) ≡ waiting d f
  pub rise : IsNonDecreasingBy tick_of (gone ++ left)
  pub past : All (λ r. tick_of r ≤ d.joiner.last) (gone ++ left)
  pub good : All (Good m d.joiner) (gone ++ left)
  pub sound : Sound d.joiner.table
  pub room : length d.joiner.feeds ≤ length d.slots

-- ---- one more call

module _ {T : Type 0} where
  pub accepted-++ : (vs ws : List (Event T)) → accepted (vs ++ ws) ≡ accepted vs ++ accepted ws
  accepted-++ vs ws = flat_map-append accepted_by vs ws

  pub given-++ : (vs ws : List (Event T)) → given (vs ++ ws) ≡ given vs ++ given ws
  given-++ vs ws = flat_map-append given_by vs ws

  accepted_push : (vs : List (Event T)) (v : Event T) → accepted (vs ++ v ∷ []) ≡ accepted vs ++ accepted_by v
  accepted_push vs v = accepted-++ vs (v ∷ []) ∙ ap (λ z. accepted vs ++ z) (append-nil (accepted_by v))

  given_push : (vs : List (Event T)) (v : Event T) → given (vs ++ v ∷ []) ≡ given vs ++ given_by v
  given_push vs v = given-++ vs (v ∷ []) ∙ ap (λ z. given vs ++ z) (append-nil (given_by v))

  accepted_none : (vs : List (Event T)) (v : Event T) → accepted_by v ≡ [] → accepted (vs ++ v ∷ []) ≡ accepted vs
  accepted_none vs v e = accepted_push vs v ∙ ap (λ z. accepted vs ++ z) e ∙ append-nil (accepted vs)

  given_none : (vs : List (Event T)) (v : Event T) → given_by v ≡ [] → given (vs ++ v ∷ []) ≡ given vs
  given_none vs v e = given_push vs v ∙ ap (λ z. given vs ++ z) e ∙ append-nil (given vs)

  -- a call that accepts nothing and gives nothing, and leaves the queue and what waits
  pub quiet : {m : BankMeaning} {vs : List (Event T)} {d : Desk T} (v : Event T) (e : Desk T) → Kept m vs d → accepted_by v ≡ [] → given_by v ≡ [] →
      e.joiner.queue ≡ d.joiner.queue → ((f : ℕ) → waiting e f ≡ waiting d f) → e.joiner.last ≡ d.joiner.last →
      ((r : Record T) → Good m d.joiner r → Good m e.joiner r) → Sound e.joiner.table →
      length e.joiner.feeds ≤ length e.slots → Kept m (vs ++ v ∷ []) e
  quiet {m} {vs} {d} v e k a g same_queue same_wait same_last same_good sound room = record {
    gone = k.gone;
    left = k.left;
    split = accepted_none vs v a ∙ k.split;
    gave = given_none vs v g ∙ k.gave;
    queue = same_queue ∙ k.queue;
    wait = λ f. k.wait f ∙ sym (same_wait f);
    rise = k.rise;
    past = All-weaker (λ r. tick_of r ≤ d.joiner.last) (λ r. tick_of r ≤ e.joiner.last) (λ r h. let h' : tick_of r ≤ d.joiner.last = h in omega arith) (k.gone ++ k.left) k.past;
    good = All-weaker (Good m d.joiner) (Good m e.joiner) same_good (k.gone ++ k.left) k.good;
    sound = sound;
    room = room;
  }

  -- and one that changes nothing at all
  pub refused : {m : BankMeaning} {vs : List (Event T)} {d : Desk T} (v : Event T) → Kept m vs d → accepted_by v ≡ [] → given_by v ≡ [] → Kept m (vs ++ v ∷ []) d
  refused {d = d} v k a g = quiet v d k a g refl (λ f. refl) refl (λ r h. h) k.sound k.room

  -- a write to a feed's state that another feed does not see
  waiting_other : (d : Desk T) (s : State) (slots : List T) (f h : ℕ) (v : FeedState) (x : T) → (h ≡ f → ⊥) → s.feeds ≡ set d.joiner.feeds f v → slots ≡ set d.slots f x →
      waiting (record { joiner = s; slots = slots }) h ≡ waiting d h
  waiting_other d s slots f h v x ne e e' =
      ap (λ z. waiting_in (get_or z h Closed) (slice_get slots h)) e ∙ ap (λ z. waiting_in z (slice_get slots h)) (get_or-set_other d.joiner.feeds f h v Closed ne)
      ∙ ap (λ z. waiting_in (feed_state d.joiner h) (slice_get z h)) e' ∙ ap (λ z. waiting_in (feed_state d.joiner h) z) (nth_set_other d.slots f h x ne)

module _ {T : Type 0} (m : BankMeaning) (vs : List (Event T)) (d : Desk T) (k : Kept m vs d) where
  -- ---- put
  module _ (f : ℕ) (p : Stamp) (x : T) (t : ℕ) (ok : Puts m d.joiner (length d.slots) f p t) where
    abbrev new : Record T
    new = record { feed = f; stamp = p; tick = t; body = x }

    abbrev put_state : State
    put_state = record { table = d.joiner.table; feeds = set d.joiner.feeds f (Holding t); queue = d.joiner.queue ++ f ∷ []; last = t }

    put_at_f : waiting d f ++ map pair (of_feed f (new ∷ [])) ≡ waiting (after_put d f x (Ok t)) f
    put_at_f =
        ap (λ z. waiting_in z (slice_get d.slots f) ++ map pair (of_feed f (new ∷ []))) ok.idle
        ∙ ap (λ b. map pair (cond b (new ∷ []) [])) (eq-eqb f f refl)
        ∙ sym (ap (λ z. waiting_in z (slice_get (set d.slots f x) f)) (get_or-set_same d.joiner.feeds f (Holding t) Closed ok.inside)
        ∙ ap (slot t) (nth_set_same d.slots f x (let i = ok.inside in let r = ok.room in omega arith)))

    put_wait : (h : ℕ) → map pair (of_feed h (k.left ++ new ∷ [])) ≡ waiting (after_put d f x (Ok t)) h
    put_wait h =
        ap (map pair) (filter-append (λ r. eqb r.feed h) k.left (new ∷ [])) ∙ map-append pair (of_feed h k.left) (of_feed h (new ∷ []))
        ∙ ap (λ z. z ++ map pair (of_feed h (new ∷ []))) (k.wait h) ∙ go (cases_eq h f)
      where
        go : (h ≡ f) ⊎ (h ≡ f → ⊥) → waiting d h ++ map pair (of_feed h (new ∷ [])) ≡ waiting (after_put d f x (Ok t)) h
        go (inl e) = subst (λ z. waiting d z ++ map pair (of_feed z (new ∷ [])) ≡ waiting (after_put d f x (Ok t)) z) (sym e) put_at_f
        go (inr ne) =
            ap (λ b. waiting d h ++ map pair (cond b (new ∷ []) [])) (ne_eqb f h (λ q. ne (sym q))) ∙ append-nil (waiting d h)
            ∙ sym (waiting_other d put_state (set d.slots f x) f h (Holding t) x ne refl refl)

    put_all : (P : Record T → Type 0) → All P (k.gone ++ k.left) → P new → All P (k.gone ++ (k.left ++ new ∷ []))
    put_all P h n = subst (All P) (append_assoc k.gone k.left (new ∷ [])) (All-push P (k.gone ++ k.left) new h n)

    put_good : All (Good m put_state) (k.gone ++ k.left)
    put_good = All-weaker (Good m d.joiner) (Good m put_state) (λ r h. (let i = h.0 in omega (arith, length-set d.joiner.feeds f (Holding t)), h.1, h.2)) (k.gone ++ k.left) k.good

    put_past : All (λ r. tick_of r ≤ t) (k.gone ++ k.left)
    put_past = All-weaker (λ r. tick_of r ≤ d.joiner.last) (λ r. tick_of r ≤ t) (λ r h. let h' : tick_of r ≤ d.joiner.last = h in let l = ok.later in omega arith) (k.gone ++ k.left) k.past

    put_kept : Kept m (vs ++ Put f p x (Ok t) ∷ []) (after_put d f x (Ok t))
    put_kept = record {
      gone = k.gone;
      left = k.left ++ new ∷ [];
      split = accepted_push vs (Put f p x (Ok t)) ∙ ap (λ z. z ++ new ∷ []) k.split ∙ append_assoc k.gone k.left (new ∷ []);
      gave = given_none vs (Put f p x (Ok t)) refl ∙ k.gave;
      queue = ap (λ z. z ++ f ∷ []) k.queue ∙ sym (map-append feed_of k.left (new ∷ []));
      wait = put_wait;
      rise = subst (IsNonDecreasingBy tick_of) (append_assoc k.gone k.left (new ∷ [])) (IsNonDecreasingBy-push tick_of (k.gone ++ k.left) new k.rise (λ q some. put_past (length (k.gone ++ k.left) - 1) q (omega arith)));
      past = put_all (λ r. tick_of r ≤ t) put_past (omega arith);
      good = put_all (Good m put_state) put_good (let i = ok.inside in omega (arith, length-set d.joiner.feeds f (Holding t)), ok.ours, ok.reads);
      sound = k.sound;
      room = let r = k.room in omega (arith, length-set d.joiner.feeds f (Holding t), length-set d.slots f x);
    }

  put_keeps : (f : ℕ) (p : Stamp) (x : T) (r : Result ℕ Said) (e : Desk T) → r ≡ put_answer m d.joiner (length d.slots) f p → e ≡ after_put d f x r → Kept m (vs ++ Put f p x r ∷ []) e
  put_keeps f p x (Ok t) e a b = subst (Kept m (vs ++ Put f p x (Ok t) ∷ [])) (sym b) (put_kept f p x t (put_ok m d.joiner (length d.slots) f p t a))
  put_keeps f p x (Err z) e a b = subst (Kept m (vs ++ Put f p x (Err z) ∷ [])) (sym b) (refused (Put f p x (Err z)) k refl refl)

  -- ---- close
  module _ (f : ℕ) (r : Result (Unit {0}) Said) (v : FeedState) (plan : Ok v ≡ close_plan d.joiner f) where
    abbrev closed : Desk T
    closed = record { joiner = closed_as d.joiner f (Ok v); slots = d.slots }

    close_wait : (h : ℕ) → waiting closed h ≡ waiting d h
    close_wait h = go (cases_eq h f)
      where
        at_f : waiting closed f ≡ waiting d f
        at_f =
            ap (λ z. waiting_in z (slice_get d.slots f)) (get_or-set_same d.joiner.feeds f v Closed (close_ok d.joiner f v plan).0)
            ∙ close_same (feed_state d.joiner f) v (slice_get d.slots f) (close_ok d.joiner f v plan).1

        go : (h ≡ f) ⊎ (h ≡ f → ⊥) → waiting closed h ≡ waiting d h
        go (inl e) = subst (λ z. waiting closed z ≡ waiting d z) (sym e) at_f
        go (inr ne) = ap (λ z. waiting_in z (slice_get d.slots h)) (get_or-set_other d.joiner.feeds f h v Closed ne)

    close_kept : Kept m (vs ++ Close f r ∷ []) closed
    close_kept = quiet (Close f r) closed k refl refl refl close_wait refl (λ r h. (let i = h.0 in omega (arith, length-set d.joiner.feeds f v), h.1, h.2)) k.sound (let z = k.room in omega (arith, length-set d.joiner.feeds f v))

  close_keeps : (f : ℕ) (r : Result (Unit {0}) Said) (e : Desk T) (a : Result FeedState Said) → a ≡ close_plan d.joiner f → e ≡ record { joiner = closed_as d.joiner f a; slots = d.slots } → Kept m (vs ++ Close f r ∷ []) e
  close_keeps f r e (Ok v) a b = subst (Kept m (vs ++ Close f r ∷ [])) (sym b) (close_kept f r v a)
  close_keeps f r e (Err z) a b = subst (Kept m (vs ++ Close f r ∷ [])) (sym b) (refused (Close f r) k refl refl)

  -- ---- bulletin
  renew_good : LawfulBank m → (b : Bulletin) (q : Record T) → Good m d.joiner q → Good m (renewed_by d.joiner b) q
  renew_good law b q h =
      let t = d.joiner.table in
      (h.0, h.1, after_keeps t b k.sound (λ u. (m.scale_of q.feed).reads u q.stamp ≡ Ok q.tick) (λ u n. (law q.feed h.1).reads_kept k.sound n h.2) h.2 (judged t b) refl)

  renew_keeps : LawfulBank m → (b : Bulletin) (r : Result (Unit {0}) Said) (e : Desk T) → e ≡ record { joiner = renewed_by d.joiner b; slots = d.slots } → Kept m (vs ++ Renew b r ∷ []) e
  renew_keeps law b r e s =
      subst (Kept m (vs ++ Renew b r ∷ [])) (sym s)
      (quiet (Renew b r) (record { joiner = renewed_by d.joiner b; slots = d.slots }) k refl refl refl (λ f. refl) refl
      (renew_good law b) (after_sound d.joiner.table b k.sound (judged d.joiner.table b) refl) k.room)

  -- ---- take
  -- the head of the queue is the first of those left, and it is what take gives
  pub record First (g : Handed T) : Type 0 where
    pub head : Record T
    pub tail : List (Record T)
    pub is : k.left ≡ head ∷ tail
    pub same : handed head ≡ g
    pub none : map pair (of_feed g.feed tail) ≡ []
    pub inside : g.feed < length d.joiner.feeds
    pub after : rest d.joiner.queue ≡ map feed_of tail

pub in_range : (vs : List FeedState) (f : ℕ) → Waits (get_or vs f Closed) → f < length vs
in_range [] f h = elim h [ ]
in_range (v ∷ vs) zero h = omega arith
in_range (v ∷ vs) (suc f) h = let i : f < length vs = in_range vs f h in omega arith

-- what waits in a feed at state v, over a slot that holds x
pub one_waits : {T : Type 0} (v : FeedState) (x : T) (a : ℕ × T) (as' : List (ℕ × T)) → a ∷ as' ≡ waiting_in v (Some x) → Waits v × (a ≡ (held v, x)) × (as' ≡ [])
one_waits Idle x a as' e = absurd (cons≢nil e)
one_waits (Holding t) x a as' e = (tt, head_same e, tail_same e)
one_waits (Closing t) x a as' e = (tt, head_same e, tail_same e)
one_waits Closed x a as' e = absurd (cons≢nil e)

pub released_none : {T : Type 0} (v : FeedState) (o : Option T) → waiting_in (released v) o ≡ []
released_none Idle o = refl
released_none (Holding t) o = refl
released_none (Closing t) o = refl
released_none Closed o = refl

module _ {T : Type 0} (m : BankMeaning) (vs : List (Event T)) (d : Desk T) (k : Kept m vs d) where
  pub first_of : (g : Handed T) (ok : Takes d.joiner d.slots g) (left : List (Record T)) → k.left ≡ left → First m vs d k g
  first_of g ok [] e = absurd (cons≢nil (sym ok.first ∙ k.queue ∙ ap (map feed_of) e))
  first_of g ok (r ∷ rs) e = record {
    head = r;
    tail = rs;
    is = e;
    same = λ i. record { feed = same_feed i; tick = (ap (λ z. z.0) w.1 ∙ sym ok.tick) i; body = (ap (λ z. z.1) w.1) i };
    none = w.2;
    inside = in_range d.joiner.feeds g.feed w.0;
    after = ap rest ok.first ∙ tail_same heads;
  }
    where
      heads : g.feed ∷ ok.after ≡ r.feed ∷ map feed_of rs
      heads = sym ok.first ∙ k.queue ∙ ap (map feed_of) e

      same_feed : r.feed ≡ g.feed
      same_feed = sym (head_same heads)

      waits : pair r ∷ map pair (of_feed g.feed rs) ≡ waiting_in (feed_state d.joiner g.feed) (Some g.body)
      waits =
          sym (ap (λ b. map pair (cond b (r ∷ of_feed g.feed rs) (of_feed g.feed rs))) (eq-eqb r.feed g.feed same_feed))
          ∙ sym (ap (λ z. map pair (of_feed g.feed z)) e) ∙ k.wait g.feed
          ∙ ap (λ z. waiting_in (feed_state d.joiner g.feed) z) ok.body

      w : Waits (feed_state d.joiner g.feed) × (pair r ≡ (held (feed_state d.joiner g.feed), g.body)) × (map pair (of_feed g.feed rs) ≡ [])
      w = one_waits (feed_state d.joiner g.feed) g.body (pair r) (map pair (of_feed g.feed rs)) waits

  module _ (g : Handed T) (o : First m vs d k g) where
    abbrev taken : Desk T
    taken = record { joiner = after_take d.joiner (Ok g); slots = d.slots }

    take_split : k.gone ++ k.left ≡ (k.gone ++ o.head ∷ []) ++ o.tail
    take_split = ap (λ z. k.gone ++ z) o.is ∙ sym (append_snoc k.gone o.head o.tail)

    take_wait : (h : ℕ) → map pair (of_feed h o.tail) ≡ waiting taken h
    take_wait h = go (cases_eq h g.feed)
      where
        at_f : map pair (of_feed g.feed o.tail) ≡ waiting taken g.feed
        at_f =
            o.none ∙ sym (released_none (feed_state d.joiner g.feed) (slice_get d.slots g.feed))
            ∙ sym (ap (λ z. waiting_in z (slice_get d.slots g.feed)) (get_or-set_same d.joiner.feeds g.feed (released (feed_state d.joiner g.feed)) Closed o.inside))

        go : (h ≡ g.feed) ⊎ (h ≡ g.feed → ⊥) → map pair (of_feed h o.tail) ≡ waiting taken h
        go (inl e) = subst (λ z. map pair (of_feed z o.tail) ≡ waiting taken z) (sym e) at_f
        go (inr ne) =
            sym (ap (λ b. map pair (cond b (o.head ∷ of_feed h o.tail) (of_feed h o.tail))) (ne_eqb o.head.feed h (λ q. ne (sym q ∙ ap (λ z. z.feed) o.same))))
            ∙ sym (ap (λ z. map pair (of_feed h z)) o.is) ∙ k.wait h
            ∙ sym (ap (λ z. waiting_in z (slice_get d.slots h)) (get_or-set_other d.joiner.feeds g.feed h (released (feed_state d.joiner g.feed)) Closed ne))

    same_size : length taken.joiner.feeds ≡ length d.joiner.feeds
    same_size = length-set d.joiner.feeds g.feed (released (feed_state d.joiner g.feed))

    take_good : All (Good m taken.joiner) (k.gone ++ k.left)
    take_good = All-weaker (Good m d.joiner) (Good m taken.joiner) (λ r h. (let i = h.0 in omega (arith, same_size), h.1, h.2)) (k.gone ++ k.left) k.good

    take_kept : Kept m (vs ++ Take (Ok g) ∷ []) taken
    take_kept = record {
      gone = k.gone ++ o.head ∷ [];
      left = o.tail;
      split = accepted_none vs (Take (Ok g)) refl ∙ k.split ∙ take_split;
      gave = given_push vs (Take (Ok g)) ∙ ap (λ z. z ++ g ∷ []) k.gave ∙ ap (λ z. map handed k.gone ++ z ∷ []) (sym o.same) ∙ sym (map-append handed k.gone (o.head ∷ []));
      queue = o.after;
      wait = take_wait;
      rise = subst (IsNonDecreasingBy tick_of) take_split k.rise;
      past = subst (All (λ r. tick_of r ≤ d.joiner.last)) take_split k.past;
      good = subst (All (Good m taken.joiner)) take_split take_good;
      sound = k.sound;
      room = let z = k.room in omega (arith, same_size);
    }

  take_keeps : (r : Result (Handed T) Said) (e : Desk T) → TakeAnswer d.joiner d.slots r → e ≡ record { joiner = after_take d.joiner r; slots = d.slots } → Kept m (vs ++ Take r ∷ []) e
  take_keeps (Ok g) e a b = subst (Kept m (vs ++ Take (Ok g) ∷ [])) (sym b) (take_kept g (first_of g (take_ok d.joiner d.slots g a) k.left refl))
  take_keeps (Err z) e a b = subst (Kept m (vs ++ Take (Err z) ∷ [])) (sym b) (refused (Take (Err z)) k refl refl)

  -- ---- any call
  pub step_keeps : LawfulBank m → (v : Event T) (e : Desk T) → Step m d v e → Kept m (vs ++ v ∷ []) e
  step_keeps law (Put f p x r) e h = put_keeps m vs d k f p x r e h.0 h.1
  step_keeps law (Take r) e h = take_keeps r e h.0 h.1
  step_keeps law (Close f r) e h = close_keeps m vs d k f r e (close_plan d.joiner f) refl h.1
  step_keeps law (Renew b r) e h = renew_keeps m vs d k law b r e h.1
  step_keeps law Elsewhere e h = subst (Kept m (vs ++ Elsewhere ∷ [])) (sym h.1) (refused Elsewhere k refl refl)
