-- The decoder undoes the encoding, and what it decodes is encoded as it stood.
use Rattle.std.proofs.Common.{◌≡◌, ℕ, zero, suc, ◌^◌, ◌<◌, ◌≤◌, Bool, true, false, cond, eqb, List, [], ◌∷◌, ◌++◌, length, get_or, drop, Some, None, Option, sym, refl, ap, ◌∙◌, inl, inr, arith, length-drop}
use Rattle.std.proofs.lemmas.Bool.{cases_Bool, eqb-true}
use Rattle.calls.specs.declared.call.Call.{Call}
use Rattle.calls.specs.declared.call.Call.TheVariants.{Put, Close, Take, Renew}
use Rattle.calls.specs.declared.event.Action.{Action}
use Rattle.calls.specs.declared.event.Action.TheVariants.{Taken, GivenBack, Denied}
use Rattle.calls.specs.declared.event.LicenceEvent.{LicenceEvent}
use Rattle.calls.specs.Event.{action_of, action_code}
use Rattle.wire.specs.Bytes.{big_endian, hexed, Bytes}
use Rattle.wire.specs.Frame.{frame_bytes, frame_line, event_bytes, longest_frame, FitsFrame}
use Rattle.wire.specs.Decoder.{pair_at, quad_at, eight_at, event_by, event_of, put_by, if_long, call_of, parsed}
use Rattle.wire.proofs.Bigs.{pair_back, quad_back, eight_back, pair_there, quad_there, eight_there, bytes_big}
use Rattle.wire.proofs.Hexes.{bytes_at, bytes_append, hexed_one}

action_there : (a : Action) → action_of (action_code a) ≡ Some a
action_there Taken = refl
action_there GivenBack = refl
action_there Denied = refl

-- events and calls with equal fields are equal
same_event : (a : Action) (s t s' t' : ℕ) → s ≡ s' → t ≡ t' → ◌≡◌ {A = Option LicenceEvent} (Some (record { action = a; seat = s; tool = t })) (Some (record { action = a; seat = s'; tool = t' }))
same_event a s t s' t' p q = cc

pub same_put : (feed h l h' l' : ℕ) (e : LicenceEvent) → h ≡ h' → l ≡ l' → ◌≡◌ {A = Option (Call LicenceEvent)} (Some (Put feed (h, l) e)) (Some (Put feed (h', l') e))
same_put feed h l h' l' e p q = cc

same_renewal : (c d x d' x' : ℕ) → d ≡ d' → x ≡ x' → ◌≡◌ {A = Option (Call LicenceEvent)} (Some (Renew (record { change = c; day = d; expiry = x }))) (Some (Renew (record { change = c; day = d'; expiry = x' })))
same_renewal c d x d' x' p q = cc

event_there : (e : LicenceEvent) → e.seat < 2 ^ 32 → e.tool < 2 ^ 16 → event_of (event_bytes e) ≡ Some e
event_there e h k =
    ap (event_by (event_bytes e)) (action_there e.action)
    ∙ same_event e.action (quad_at (big_endian 4 e.seat) 0) (pair_at (big_endian 2 e.tool) 0) e.seat e.tool (quad_there e.seat h) (pair_there e.tool k)

pub parses_back : (c : Call LicenceEvent) → FitsFrame c → parsed (frame_bytes c) ≡ Some c
parses_back (Put feed stamp event) h =
    let rest : List ℕ = feed ∷ (big_endian 8 stamp.0 ++ (big_endian 8 stamp.1 ++ event_bytes event)) in
    ap (put_by rest) (event_there event h.3 h.4)
    ∙ same_put feed (eight_at (big_endian 8 stamp.0) 0) (eight_at (big_endian 8 stamp.1) 0) stamp.0 stamp.1 event (eight_there stamp.0 h.1) (eight_there stamp.1 h.2)
parses_back (Close feed) h = refl
parses_back Take h = refl
parses_back (Renew b) h =
    same_renewal b.change (quad_at (big_endian 4 b.day) 0) (quad_at (big_endian 4 b.expiry) 0) b.day b.expiry (quad_there b.day h.1) (quad_there b.expiry h.2)

-- the elements of a list from place i on
abbrev from_on : ℕ → ℕ → List ℕ → List ℕ
from_on zero i xs = []
from_on (suc n) i xs = get_or xs i 0 ∷ from_on n (suc i) xs

behind : (n i x : ℕ) (xs : List ℕ) → from_on n (suc i) (x ∷ xs) ≡ from_on n i xs
behind zero i x xs = refl
behind (suc n) i x xs = ap (λ (ys : List ℕ). get_or xs i 0 ∷ ys) (behind n (suc i) x xs)

spelled : (n : ℕ) (xs : List ℕ) → length xs ≡ n → from_on n 0 xs ≡ xs
spelled zero [] h = refl
spelled zero (x ∷ xs) h = absurd (omega arith)
spelled (suc n) [] h = absurd (omega arith)
spelled (suc n) (x ∷ xs) h = ap (λ (ys : List ℕ). x ∷ ys) (behind n 0 x xs ∙ spelled n xs (omega arith))

-- and what is left behind them
spelled_with : (n : ℕ) (xs : List ℕ) → n ≤ length xs → from_on n 0 xs ++ drop n xs ≡ xs
spelled_with zero xs h = refl
spelled_with (suc n) [] h = absurd (omega arith)
spelled_with (suc n) (x ∷ xs) h = ap (λ (ys : List ℕ). x ∷ (ys ++ drop n xs)) (behind n 0 x xs) ∙ ap (λ (ys : List ℕ). x ∷ ys) (spelled_with n xs (omega arith))

bytes_from : (n i : ℕ) (xs : List ℕ) → Bytes xs → Bytes (from_on n i xs)
bytes_from zero i xs bytes = tt
bytes_from (suc n) i xs bytes = (bytes_at xs bytes i, bytes_from n (suc i) xs bytes)

bytes_drop : (n : ℕ) (xs : List ℕ) → Bytes xs → Bytes (drop n xs)
bytes_drop zero xs b = b
bytes_drop (suc n) [] b = b
bytes_drop (suc n) (x ∷ xs) b = bytes_drop n xs b.1

-- a test that was passed on the way to an answer
passed : {A : Type 0} (b : Bool) (o : Option A) (c : A) → cond b o None ≡ Some c → (b ≡ true) × (o ≡ Some c)
passed true o c e = (refl, e)
passed false o c e = cc

action_back : (n : ℕ) (a : Action) → action_of n ≡ Some a → action_code a ≡ n
action_back n a e = elim (cases_Bool (eqb n 1)) [
  | inl t ↦ let f = rw t at e in let s : Taken ≡ a = cc in ap action_code (sym s) ∙ sym (eqb-true n 1 t)
  | inr t ↦ let f = rw t at e in elim (cases_Bool (eqb n 2)) [
    | inl u ↦ let g = rw u at f in let s : GivenBack ≡ a = cc in ap action_code (sym s) ∙ sym (eqb-true n 2 u)
    | inr u ↦ let g = rw u at f in elim (cases_Bool (eqb n 3)) [
      | inl v ↦ let h = rw v at g in let s : Denied ≡ a = cc in ap action_code (sym s) ∙ sym (eqb-true n 3 v)
      | inr v ↦ let h = rw v at g in cc
    ]
  ]
]

event_back : (xs : List ℕ) → Bytes xs → length xs ≡ 7 → (e : LicenceEvent) (o : Option Action) → action_of (get_or xs 0 0) ≡ o → event_by xs o ≡ Some e → event_bytes e ≡ xs
event_back xs bytes h e None s q = cc
event_back xs bytes h e (Some a) s q =
    let same : e ≡ record { action = a; seat = quad_at xs 1; tool = pair_at xs 5 } = cc in
    let code = action_back (get_or xs 0 0) a s in
    let seat = quad_back (from_on 4 1 xs) (bytes_from 4 1 xs bytes) refl in
    let tool = pair_back (from_on 2 5 xs) (bytes_from 2 5 xs bytes) refl in
    ap event_bytes same ∙ cc (code, seat, tool) ∙ spelled 7 xs h

module _ (xs : List ℕ) (bytes : Bytes xs) where
  same_parts : (p : ℕ) (k l m k' l' m' : List ℕ) → k ≡ k' → l ≡ l' → m ≡ m' → p ∷ (k ++ (l ++ m)) ≡ p ∷ (k' ++ (l' ++ m'))
  same_parts p k l m k' l' m' a b c = cc

  put_back : 17 ≤ length xs → (e : LicenceEvent) → event_bytes e ≡ drop 17 xs → frame_bytes (Put (get_or xs 0 0) (eight_at xs 1, eight_at xs 9) e) ≡ 1 ∷ xs
  put_back h e s = ap (λ (ys : List ℕ). 1 ∷ ys) (same_parts (get_or xs 0 0)
      (big_endian 8 (eight_at xs 1)) (big_endian 8 (eight_at xs 9)) (event_bytes e) (from_on 8 1 xs) (from_on 8 9 xs) (drop 17 xs)
      (eight_back (from_on 8 1 xs) (bytes_from 8 1 xs bytes) refl)
      (eight_back (from_on 8 9 xs) (bytes_from 8 9 xs bytes) refl)
      s
      ∙ spelled_with 17 xs h)

  renewal_back : length xs ≡ 9 → frame_bytes (Renew (record { change = get_or xs 0 0; day = quad_at xs 1; expiry = quad_at xs 5 })) ≡ 4 ∷ xs
  renewal_back h =
      let d = quad_back (from_on 4 1 xs) (bytes_from 4 1 xs bytes) refl in
      let x = quad_back (from_on 4 5 xs) (bytes_from 4 5 xs bytes) refl in
      ap (λ (ys : List ℕ). 4 ∷ (get_or xs 0 0 ∷ (ys ++ big_endian 4 (quad_at xs 5)))) d
      ∙ ap (λ (ys : List ℕ). 4 ∷ (get_or xs 0 0 ∷ (from_on 4 1 xs ++ ys))) x
      ∙ ap (λ (ys : List ℕ). 4 ∷ ys) (spelled 9 xs h)

  put_parsed : (c : Call LicenceEvent) (o : Option LicenceEvent) → event_of (drop 17 xs) ≡ o → put_by xs o ≡ Some c → frame_bytes c ≡ 1 ∷ xs
  put_parsed c None s q = cc
  put_parsed c (Some e) s q =
      let ys : List ℕ = drop 17 xs in
      let p = passed (eqb (length ys) 7) (event_by ys (action_of (get_or ys 0 0))) e s in
      let l : length ys ≡ 7 = eqb-true (length ys) 7 p.0 in
      let same : c ≡ Put (get_or xs 0 0) (eight_at xs 1, eight_at xs 9) e = cc in
      ap frame_bytes same ∙ put_back (omega (arith, length-drop 17 xs, l)) e (event_back ys (bytes_drop 17 xs bytes) l e (action_of (get_or ys 0 0)) refl p.1)

  pub kind_parsed : (kind : ℕ) (c : Call LicenceEvent) → call_of kind xs ≡ Some c → frame_bytes c ≡ kind ∷ xs
  kind_parsed kind c e = elim (cases_Bool (eqb kind 1)) [
    | inl t ↦ put_parsed c (event_of (drop 17 xs)) refl (rw t at e) ∙ ap (λ (k : ℕ). k ∷ xs) (sym (eqb-true kind 1 t))
    | inr t ↦ let e1 = rw t at e in elim (cases_Bool (eqb kind 2)) [
      | inl u ↦ let p = passed (eqb (length xs) 1) (Some (Close (get_or xs 0 0))) c (rw u at e1) in
          let same : c ≡ Close (get_or xs 0 0) = cc in
          ap frame_bytes same ∙ ap (λ (ys : List ℕ). 2 ∷ ys) (spelled 1 xs (eqb-true (length xs) 1 p.0)) ∙ ap (λ (k : ℕ). k ∷ xs) (sym (eqb-true kind 2 u))
      | inr u ↦ let e2 = rw u at e1 in elim (cases_Bool (eqb kind 3)) [
        | inl v ↦ let p = passed (eqb (length xs) 0) (Some Take) c (rw v at e2) in
            let same : c ≡ Take = cc in
            ap frame_bytes same ∙ ap (λ (ys : List ℕ). 3 ∷ ys) (spelled 0 xs (eqb-true (length xs) 0 p.0)) ∙ ap (λ (k : ℕ). k ∷ xs) (sym (eqb-true kind 3 v))
        | inr v ↦ let e3 = rw v at e2 in
            let q = passed (eqb kind 4) (if_long 9 xs (Some (Renew (record { change = get_or xs 0 0; day = quad_at xs 1; expiry = quad_at xs 5 })))) c e3 in
            let p = passed (eqb (length xs) 9) (Some (Renew (record { change = get_or xs 0 0; day = quad_at xs 1; expiry = quad_at xs 5 }))) c q.1 in
            let same : c ≡ Renew (record { change = get_or xs 0 0; day = quad_at xs 1; expiry = quad_at xs 5 }) = cc in
            ap frame_bytes same ∙ renewal_back (eqb-true (length xs) 9 p.0) ∙ ap (λ (k : ℕ). k ∷ xs) (sym (eqb-true kind 4 q.0))
      ]
    ]
  ]

pub parsed_writes : (bs : List ℕ) (c : Call LicenceEvent) → Bytes bs → parsed bs ≡ Some c → frame_bytes c ≡ bs
parsed_writes [] c t e = cc
parsed_writes (kind ∷ xs) c t e = kind_parsed xs t.1 kind c e

-- the bytes of a frame are bytes, and no more than the longest has
pub frame_fits : (c : Call LicenceEvent) → FitsFrame c → Bytes (frame_bytes c)
frame_fits (Put feed stamp event) h =
    let seat_tool = bytes_append (big_endian 4 event.seat) (big_endian 2 event.tool) (bytes_big 4 event.seat) (bytes_big 2 event.tool) in
    let lo = bytes_append (big_endian 8 stamp.1) (event_bytes event) (bytes_big 8 stamp.1) (action_small event.action, seat_tool) in
    let hi = bytes_append (big_endian 8 stamp.0) (big_endian 8 stamp.1 ++ event_bytes event) (bytes_big 8 stamp.0) lo in
    (omega arith, (h.0, hi))
  where
    action_small : (a : Action) → action_code a < 256
    action_small Taken = omega arith
    action_small GivenBack = omega arith
    action_small Denied = omega arith
frame_fits (Close feed) h = (omega arith, (h, tt))
frame_fits Take h = (omega arith, tt)
frame_fits (Renew b) h = (omega arith, (h.0, bytes_append (big_endian 4 b.day) (big_endian 4 b.expiry) (bytes_big 4 b.day) (bytes_big 4 b.expiry)))

pub frame_short : (c : Call LicenceEvent) → length (frame_bytes c) ≤ longest_frame
frame_short (Put feed stamp event) = omega arith
frame_short (Close feed) = omega arith
frame_short Take = omega arith
frame_short (Renew b) = omega arith

-- a line that writes a call is decoded as that call, from whichever bytes it was read as
pub decodes_as : (bs line : List ℕ) (c : Call LicenceEvent) → hexed bs ≡ line → FitsFrame c → frame_line c ≡ line → parsed bs ≡ Some c
decodes_as bs line c e h f = ap parsed (hexed_one bs (frame_bytes c) (e ∙ sym f)) ∙ parses_back c h

pub decoded_writes : (bs line : List ℕ) (c : Call LicenceEvent) → Bytes bs → hexed bs ≡ line → parsed bs ≡ Some c → frame_line c ≡ line
decoded_writes bs line c t e p = ap hexed (parsed_writes bs c t p) ∙ e
