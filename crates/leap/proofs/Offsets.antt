-- What a sound table says of its offsets.
use Rattle.std.proofs.Common.{◌≡◌, ℕ, zero, suc, ◌+◌, ◌<◌, ◌≤◌, min, cond, leb, List, [], ◌∷◌, ◌++◌, length, Some, None, Option, MatchOption, reverse, sym, refl, ap, ◌∙◌, inl, inr, add-one, arith}
use Rattle.std.proofs.lemmas.List.{reverse-reverse}
use Rattle.std.proofs.lemmas.Grind.{reverse_onto}
use Rattle.std.specs.List.{find}
use Rattle.std.specs.Option.{option_map, option_map_or}
use Rattle.std.proofs.lemmas.Bool.{le-leb, lt-leb, cases_lt}
use Rattle.leap.specs.declared.entry.Entry.{Entry}
use Rattle.leap.specs.Table.{Table, Sound, Counts, largest_step, top_offset, day_seconds, first_entry_day, first_entry_offset, at, offset_on, off, len}
use Rattle.leap.specs.Bulletin.{Renews, KeepsPast}
use Rattle.leap.specs.Parts.{table_from}
use Rattle.leap.proofs.Chain.{Next, Follow}
use Rattle.leap.proofs.Saying.{Stands, sound_stands}

-- from day to day f rises or falls by at most st
pub record Paced (st : ℕ) (f : ℕ → ℕ) : Type 0 where
  pub low : (d : ℕ) → f d ≤ top_offset
  pub rises : (d : ℕ) → f (d + 1) ≤ f d + st
  pub falls : (d : ℕ) → f d ≤ f (d + 1) + st

-- an entry that counts on day d, and one that does not yet
pub begun : (o : ℕ) (e : Entry) (es : List Entry) (d : ℕ) → e.day ≤ d → offset_on o (e ∷ es) d ≡ offset_on e.offset es d
begun o e es d h = rw (le-leb e.day d h)

pub ahead : (o : ℕ) (e : Entry) (es : List Entry) (d : ℕ) → d < e.day → offset_on o (e ∷ es) d ≡ offset_on o es d
ahead o e es d h = rw (lt-leb e.day d h)

-- a first entry with the offset o makes no difference
first_alike : (o : ℕ) (e : Entry) (es : List Entry) (d : ℕ) → e.offset ≡ o → offset_on o (e ∷ es) d ≡ offset_on e.offset es d
first_alike o e es d h = elim (cases_lt d e.day) [ inl l ↦ ahead o e es d l ∙ ap (λ (p : ℕ). offset_on p es d) (sym h) | inr l ↦ begun o e es d l ]

pub in_time : (a : Entry) (es : List Entry) (x : ℕ) → Follow a es x → a.day < x
in_time a [] x f = f
in_time a (b ∷ es) x f = let n = f.0 in let k = in_time b es x f.1 in omega arith

-- the offset stays p up to the day of the entry before
before : (a : Entry) (es : List Entry) (x p d : ℕ) → Follow a es x → d ≤ a.day → offset_on p es d ≡ p
before a [] x p d f h = refl
before a (b ∷ es) x p d f h = let n = f.0 in ahead p b es d (omega arith) ∙ before b es x p d f.1 (omega arith)

tops : (a : Entry) (es : List Entry) (x d : ℕ) → a.offset ≤ top_offset → Follow a es x → offset_on a.offset es d ≤ top_offset
tops a [] x d h f = h
tops a (b ∷ es) x d h f =
    elim (cases_lt d b.day) [
      | inl l ↦ rw (ahead a.offset b es d l, before b es x a.offset d f.1 (omega arith)) h
      | inr l ↦ rw (begun a.offset b es d l) (tops b es x d f.0.range f.1)
    ]

abbrev Near : ℕ → ℕ → Type 0
Near a b = (b ≤ a + largest_step) × (a ≤ b + largest_step)

near_same : (o : ℕ) → Near o o
near_same o = (omega arith, omega arith)

near_next : (a b : Entry) → Next a b → Near a.offset b.offset
near_next a b n = (omega (arith, n.steps), omega (arith, n.steps))

paces : (a : Entry) (es : List Entry) (x d : ℕ) → Follow a es x → Near (offset_on a.offset es d) (offset_on a.offset es (d + 1))
paces a [] x d f = near_same a.offset
paces a (b ∷ es) x d f =
    let o = a.offset in
    elim (cases_lt (d + 1) b.day) [
      | inl l ↦ rw (ahead o b es (d + 1) l, ahead o b es d (omega arith), before b es x o (d + 1) f.1 (omega arith), before b es x o d f.1 (omega arith)) (near_same o)
      | inr l ↦ elim (cases_lt d b.day) [
        | inl k ↦ rw (begun o b es (d + 1) l, ahead o b es d k, before b es x b.offset (d + 1) f.1 (omega arith), before b es x o d f.1 (omega arith)) (near_next a b f.0)
        | inr k ↦ rw (begun o b es (d + 1) l, begun o b es d k) (paces b es x d f.1)
      ]
    ]

-- no entry has a day from the expiry on
at_end : (a : Entry) (es : List Entry) (x p d k : ℕ) → Follow a es x → x ≤ d + 1 → d ≤ k → offset_on p es d ≡ offset_on p es k
at_end a [] x p d k f h l = refl
at_end a (b ∷ es) x p d k f h l =
    let m = in_time b es x f.1 in
    begun p b es d (omega arith) ∙ at_end b es x b.offset d k f.1 h l ∙ sym (begun p b es k (omega arith))

-- one more entry counts from its day on
pub offset_push : (o : ℕ) (es : List Entry) (e : Entry) (d : ℕ) → offset_on o (es ++ e ∷ []) d ≡ cond (leb e.day d) e.offset (offset_on o es d)
offset_push o [] e d = refl
offset_push o (a ∷ es) e d = offset_push (cond (leb a.day d) a.offset o) es e d

pub offset_appended : (o : ℕ) (es : List Entry) (e : Entry) (d : ℕ) → d < e.day → offset_on o (es ++ e ∷ []) d ≡ offset_on o es d
offset_appended o es e d h = offset_push o es e d ∙ ap (λ b. cond b e.offset (offset_on o es d)) (lt-leb e.day d h)

-- a search from the newest entry back finds the one that counts, if any does
abbrev pub offset_of : Entry → ℕ
offset_of e = e.offset

found_back : (o : ℕ) (es : List Entry) (d : ℕ) → offset_on o (reverse es) d ≡ option_map_or offset_of (find (λ e. leb e.day d) es) o
found_back o [] d = refl
found_back o (e ∷ es) d =
    let back = found_back o es d in
    ap (λ (xs : List Entry). offset_on o xs d) (reverse_onto es e [])
    ∙ offset_push o (reverse es) e d
    ∙ elim (cases_lt d e.day) [ inl l ↦ rw (lt-leb e.day d l) back | inr l ↦ rw (le-leb e.day d l) refl ]

pub from_back : (o : ℕ) (es : List Entry) (d : ℕ) → offset_on o es d ≡ option_map_or offset_of (find (λ e. leb e.day d) (reverse es)) o
from_back o es d = ap (λ (xs : List Entry). offset_on o xs d) (sym (reverse-reverse es)) ∙ found_back o (reverse es) d

-- the answer at what was found, which is seen as an entry, by what is known of it there and where there is nothing
pub answer_is : {A : Type 0} (seen : A → Entry) (P : A → Type 0) (r : Option A) (o n : ℕ) → MatchOption r (n ≡ o) P → ((a : A) → P a → n ≡ (seen a).offset) → n ≡ option_map_or offset_of (option_map seen r) o
answer_is seen P None o n nothing means = nothing
answer_is seen P (Some a) o n found means = means a found

-- a sound table has a first entry, and those that follow
record Split (t : Table) : Type 0 where
  first : Entry
  rest : List Entry
  whole : t.entries ≡ first ∷ rest
  stands : Stands first rest t.expiry

split_by : (es : List Entry) (x : ℕ) → Sound (table_from es x) → Split (table_from es x)
split_by [] x s = let no : ⊥ = omega (arith, s.some) in absurd no
split_by (a ∷ es) x s = record { first = a; rest = es; whole = refl; stands = sound_stands a es x s }

module _ (t : Table) (s : Sound t) where
  split : Split t
  split = split_by t.entries t.expiry s

  -- the offset by the entries after the first
  off_is : (d : ℕ) → off t d ≡ offset_on split.first.offset split.rest d
  off_is d =
      ap (λ (es : List Entry). offset_on first_entry_offset es d) split.whole
      ∙ first_alike first_entry_offset split.first split.rest d split.stands.first_offset

  pub off_low : (d : ℕ) → off t d ≤ top_offset
  off_low d = let o = split.stands.first_offset in rw (off_is d) (tops split.first split.rest t.expiry d (omega arith) split.stands.follow)

  pub off_paced : Paced largest_step (off t)
  off_paced =
      record {
        low = off_low;
        rises = λ d. rw (off_is d, off_is (d + 1)) (paces split.first split.rest t.expiry d split.stands.follow).0;
        falls = λ d. rw (off_is d, off_is (d + 1)) (paces split.first split.rest t.expiry d split.stands.follow).1;
      }

  pub starts_before : first_entry_day < t.expiry
  starts_before = let e = split.stands.first_day in let l = in_time split.first split.rest t.expiry split.stands.follow in omega arith

  pub off_first : (d : ℕ) → d ≤ first_entry_day → off t d ≡ first_entry_offset
  off_first d h =
      let e = split.stands.first_day in
      off_is d ∙ before split.first split.rest t.expiry split.first.offset d split.stands.follow (omega arith) ∙ split.stands.first_offset

  -- from the day before the expiry on the offset stays
  pub off_end : (d k : ℕ) → t.expiry ≤ d + 1 → d ≤ k → off t d ≡ off t k
  off_end d k h l = off_is d ∙ at_end split.first split.rest t.expiry split.first.offset d k split.stands.follow h l ∙ sym (off_is k)

  -- so a later day may be cut to one from there on
  pub off_cut : (d m top : ℕ) → t.expiry ≤ top + 1 → m ≡ min d top → off t m ≡ off t d
  off_cut d m top h e =
      elim (cases_lt top d) [
        | inl l ↦ let f : m ≡ top = omega arith in ap (off t) f ∙ off_end top d h (omega arith)
        | inr l ↦ let f : m ≡ d = omega arith in ap (off t) f
      ]

  -- no day is longer or shorter than the largest step allows
  pub len_most : (d : ℕ) → len t d ≤ day_seconds + largest_step
  len_most d = let p = off_paced.rises d in omega arith

  pub len_least : (d : ℕ) → day_seconds ≤ len t d + largest_step
  len_least d = let p = off_paced.falls d in omega arith

-- the entry at place k counts on day d where it has begun, and the next one has not
counts : (a : Entry) (es : List Entry) (x o k d : ℕ) → Follow a es x → k ≤ length es → (at (a ∷ es) k).day ≤ d → (k < length es → d < (at (a ∷ es) (suc k)).day) → offset_on o (a ∷ es) d ≡ (at (a ∷ es) k).offset
counts a [] x o zero d f h l m = begun o a [] d l
counts a (b ∷ es) x o zero d f h l m =
    let n = m (omega arith) in
    begun o a (b ∷ es) d l ∙ ahead a.offset b es d n ∙ before b es x a.offset d f.1 (omega arith)
counts a [] x o (suc k) d f h l m = let no : ⊥ = omega arith in absurd no
counts a (b ∷ es) x o (suc k) d f h l m = counts b es x (cond (leb a.day d) a.offset o) k d f.1 (omega arith) l (λ g. m (omega arith))

counts_at : (es : List Entry) (x k d : ℕ) → Sound (table_from es x) → k < length es → (at es k).day ≤ d → (k + 1 < length es → d < (at es (k + 1)).day) → off (table_from es x) d ≡ (at es k).offset
counts_at [] x k d s h l m = let no : ⊥ = omega arith in absurd no
counts_at (a ∷ es) x k d s h l m = counts a es x first_entry_offset k d (sound_stands a es x s).follow (omega arith) l (λ g. rw (add-one k) at (m (omega arith)))

-- off is the offset of the last entry whose day is at most d
pub off_at : (t : Table) → Sound t → (k d : ℕ) → k < length t.entries → (at t.entries k).day ≤ d → (k + 1 < length t.entries → d < (at t.entries (k + 1)).day) → off t d ≡ (at t.entries k).offset
off_at t s k d h l m = counts_at t.entries t.expiry k d s h l m

pub off_counts : (t : Table) → Sound t → (d : ℕ) → Counts t d (off t d)
off_counts t s d = record { since = λ k h l m. off_at t s k d h l m; before = λ h. off_first t s d (omega arith) }

-- what a renewed table says of the days up to the old expiry
pub off_kept : {t u : Table} → Renews t u → (d : ℕ) → d ≤ t.expiry → off u d ≡ off t d
off_kept {t} {u} r d l =
    elim r.entries_stand [
      | inl e ↦ ap (λ (es : List Entry). offset_on first_entry_offset es d) e
      | inr p ↦ ap (λ (es : List Entry). offset_on first_entry_offset es d) p.1 ∙ offset_appended first_entry_offset t.entries p.0 d (omega (arith, p.2))
    ]

pub expiry_grows : {t u : Table} → Renews t u → t.expiry ≤ u.expiry
expiry_grows r = r.expiry_grows

pub keeps_past : {t u : Table} → Renews t u → KeepsPast t u
keeps_past {t} {u} r =
    record {
      offsets = off_kept r;
      lengths = λ d h. let e = off_kept r d (omega arith) in let f = off_kept r (d + 1) (omega arith) in omega arith;
    }
