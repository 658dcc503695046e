-- what each call leaves of the queue, the slots and the accepted records
use Rattle.std.proofs.Common.{◌≡◌, ℕ, zero, suc, ◌<◌, ◌≤◌, Bool, true, false, cond, ◌&&◌, ltb, leb, List, [], ◌∷◌, length, Some, Ok, Err, Option, Result, sym, refl, ap, ◌∙◌, arith}
use Rattle.std.specs.List.{slice_get}
use Rattle.std.proofs.lemmas.Bool.{ltb-true, ltb-false, leb-false}
use Rattle.refusals.specs.declared.fault.Fault.{Fault}
use Rattle.refusals.specs.declared.refusal.Refusal.{Refusal}
use Rattle.refusals.specs.declared.refusal.Refusal.TheVariants.{NoFeed}
use Rattle.refusals.specs.Said.{Said, plain}
use Rattle.order.specs.declared.state.FeedState.{FeedState}
use Rattle.order.specs.declared.state.FeedState.TheVariants.{Idle, Holding, Closing, Closed}
use Rattle.calls.specs.declared.call.Handed.{Handed}
use Rattle.leap.specs.declared.bulletin.Bulletin.{Bulletin}
use Rattle.leap.specs.Table.{Table, Sound}
use Rattle.leap.specs.Bulletin.{judged, renewed, after_answer, Renews}
use Rattle.leap.proofs.Bulletins.{accepted_sound, accepted_renews}
use Rattle.clocks.specs.Counts.{told_limit}
use Rattle.clocks.specs.Forms.{Stamp}
use Rattle.clocks.specs.Banks.{BankMeaning, clocked, bank_reads, bank_loss}
use Rattle.order.specs.Desk.{State, feed_state, loss_checked, in_order, put_at, put_answer, close_at, close_plan, TakeAnswer, take_if_short, waits_none, take_at, idle_count, held}
use Rattle.order.specs.History.{waiting_in}

-- ---- answers

pub ok≢err : {A E : Type 0} {a : A} {e : E} → Ok a ≡ Err e → ⊥
ok≢err p = let z : ◌≡◌ {A = ℕ} 0 1 = cc in omega arith

pub ok_same : {A E : Type 0} {a b : A} → ◌≡◌ {A = Result A E} (Ok a) (Ok b) → a ≡ b
ok_same p = cc

cond_ok : {A : Type 0} (b : Bool) (z : Said) (r : Result A Said) (a : A) → Ok a ≡ cond b (Err z) r → (b ≡ false) × (Ok a ≡ r)
cond_ok true z r a e = absurd (ok≢err e)
cond_ok false z r a e = (refl, e)

-- what an accepting put has found
pub record Puts (m : BankMeaning) (s : State) (k f : ℕ) (p : Stamp) (t : ℕ) : Type 0 where
  pub room : length s.feeds ≤ k
  pub inside : f < length s.feeds
  pub idle : feed_state s f ≡ Idle
  pub ours : f < m.feeds
  pub reads : (m.scale_of f).reads s.table p ≡ Ok t
  pub later : s.last ≤ t

in_order_ok : (last : ℕ) (r : Result ℕ Refusal) (t : ℕ) → Ok t ≡ in_order last r → (r ≡ Ok t) × (last ≤ t)
in_order_ok last (Ok u) t e =
    let c = cond_ok (ltb u last) (plain 15) (Ok u) t e in
    let same : t ≡ u = ok_same c.1 in
    let low : last ≤ u = ltb-false u last c.0 in
    (ap Ok (sym same), omega arith)
in_order_ok last (Err r) t e = absurd (ok≢err e)

loss_ok : (l : Result ℕ Refusal) (a : Result ℕ Said) (t : ℕ) → Ok t ≡ loss_checked l a → Ok t ≡ a
loss_ok (Ok l) a t e = (cond_ok (leb told_limit l) (plain 16) a t e).1
loss_ok (Err r) a t e = absurd (ok≢err e)

-- a bank that reads has the feed
bank_read : (m : BankMeaning) (table : Table) (f : ℕ) (p : Stamp) (t : ℕ) → bank_reads m table f p ≡ Ok t → (f < m.feeds) × ((m.scale_of f).reads table p ≡ Ok t)
bank_read m table f p t e = go (ltb f 64) (ltb f m.feeds) refl ((m.scale_of f).reads table p) refl e
  where
    go : (a b : Bool) → ltb f m.feeds ≡ b → (r : Result ℕ Fault) → (m.scale_of f).reads table p ≡ r → cond (a && b) (clocked r) (Err NoFeed) ≡ Ok t → (f < m.feeds) × ((m.scale_of f).reads table p ≡ Ok t)
    go true true h (Ok u) s e = (ltb-true f m.feeds h, s ∙ ap Ok (ok_same e))
    go true true h (Err z) s e = absurd (ok≢err (sym e))
    go true false h r s e = absurd (ok≢err (sym e))
    go false b h r s e = absurd (ok≢err (sym e))

put_at_ok : (m : BankMeaning) (s : State) (f : ℕ) (p : Stamp) (v : FeedState) (t : ℕ) → Ok t ≡ put_at m s f p v → (v ≡ Idle) × (f < m.feeds) × ((m.scale_of f).reads s.table p ≡ Ok t) × (s.last ≤ t)
put_at_ok m s f p Idle t e =
    let o = in_order_ok s.last (bank_reads m s.table f p) t (loss_ok (bank_loss m f) (in_order s.last (bank_reads m s.table f p)) t e) in
    let q = bank_read m s.table f p t o.0 in
    (refl, q.0, q.1, o.1)
put_at_ok m s f p (Holding u) t e = absurd (ok≢err e)
put_at_ok m s f p (Closing u) t e = absurd (ok≢err e)
put_at_ok m s f p Closed t e = absurd (ok≢err e)

pub put_ok : (m : BankMeaning) (s : State) (k f : ℕ) (p : Stamp) (t : ℕ) → Ok t ≡ put_answer m s k f p → Puts m s k f p t
put_ok m s k f p t e =
    let c = cond_ok (ltb k (length s.feeds)) (plain 3) (cond (leb (length s.feeds) f) (Err (plain 4)) (put_at m s f p (feed_state s f))) t e in
    let b = cond_ok (leb (length s.feeds) f) (plain 4) (put_at m s f p (feed_state s f)) t c.1 in
    let a = put_at_ok m s f p (feed_state s f) t b.1 in
    record { room = ltb-false k (length s.feeds) c.0; inside = leb-false (length s.feeds) f b.0; idle = a.0; ours = a.1; reads = a.2; later = a.3 }

pub close_ok : (s : State) (f : ℕ) (v : FeedState) → Ok v ≡ close_plan s f → (f < length s.feeds) × (Ok v ≡ close_at (feed_state s f))
close_ok s f v e =
    let b = cond_ok (leb (length s.feeds) f) (plain 4) (close_at (feed_state s f)) v e in
    (leb-false (length s.feeds) f b.0, b.1)

pub close_same : {T : Type 0} (u v : FeedState) (o : Option T) → Ok v ≡ close_at u → waiting_in v o ≡ waiting_in u o
close_same Idle v o e = ap (λ (z : FeedState). waiting_in z o) (ok_same e)
close_same (Holding t) v o e = ap (λ (z : FeedState). waiting_in z o) (ok_same e)
close_same (Closing t) v o e = absurd (ok≢err e)
close_same Closed v o e = absurd (ok≢err e)

-- a bulletin, accepted or not, leaves a sound table that says what the old one said
pub after_sound : (t : Table) (b : Bulletin) → Sound t → (r : Result (Unit {0}) Said) → judged t b ≡ r → Sound (after_answer t (renewed t b) r)
after_sound t b s (Ok u) e = accepted_sound t s b e
after_sound t b s (Err z) e = s

pub after_keeps : (t : Table) (b : Bulletin) → Sound t → (P : Table → Type 0) → ((u : Table) → Renews t u → P u) → P t → (r : Result (Unit {0}) Said) → judged t b ≡ r → P (after_answer t (renewed t b) r)
after_keeps t b s P f p (Ok u) e = f (renewed t b) (accepted_renews t s b e)
after_keeps t b s P f p (Err z) e = p

-- what a giving take has found
pub record Takes {T : Type 0} (s : State) (slots : List T) (g : Handed T) : Type 0 where
  pub after : List ℕ
  pub first : s.queue ≡ g.feed ∷ after
  pub tick : g.tick ≡ held (feed_state s g.feed)
  pub body : slice_get slots g.feed ≡ Some g.body

takes_at : {T : Type 0} (s : State) (slots : List T) (g : Handed T) (q : List ℕ) → s.queue ≡ q → take_at s slots q (Ok g) → Takes s slots g
takes_at {T} s slots g [] e h = go (idle_count s) h
  where
    go : (n : ℕ) → waits_none s n (Ok g) → Takes s slots g
    go zero h = absurd (ok≢err h)
    go (suc n) h = absurd (ok≢err h.3)
takes_at {T} s slots g (f ∷ fs) e h =
    let same : g ≡ record { feed = f; tick = held (feed_state s f); body = h.0 } = ok_same h.2 in
    let same_feed : f ≡ g.feed = sym (ap (λ z. z.feed) same) in
    record {
      after = fs;
      first = e ∙ ap (λ z. z ∷ fs) same_feed;
      tick = ap (λ z. z.tick) same ∙ ap (λ z. held (feed_state s z)) same_feed;
      body = ap (λ z. slice_get slots z) (sym same_feed) ∙ h.1 ∙ ap Some (sym (ap (λ z. z.body) same));
    }

pub take_ok : {T : Type 0} (s : State) (slots : List T) (g : Handed T) → TakeAnswer s slots (Ok g) → Takes s slots g
take_ok {T} s slots g h = go (ltb (length slots) (length s.feeds)) h
  where
    go : (b : Bool) → take_if_short s slots b (Ok g) → Takes s slots g
    go true h = absurd (ok≢err h)
    go false h = takes_at s slots g s.queue refl h
