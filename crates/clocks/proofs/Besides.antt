-- Banks are lawful if their parts are.
use Rattle.std.proofs.Common.{◌≡◌, ℕ, ◌+◌, ◌-◌, ◌<◌, ◌≤◌, Err, Result, sym, subst, inl, inr, arith}
use Rattle.std.proofs.lemmas.Bool.{cases_lt, lt-ltb, le-ltb}
use Rattle.refusals.specs.declared.refusal.Refusal.{Refusal}
use Rattle.refusals.specs.declared.refusal.Refusal.TheVariants.{NoFeed}
use Rattle.clocks.specs.Forms.{FormMeaning, LawfulForm}
use Rattle.clocks.specs.Banks.{BankMeaning, LawfulBank, one_scale, beside, of_feed}

pub one_lawful : (s : FormMeaning) → LawfulForm s → LawfulBank (one_scale s)
one_lawful s l f h = l

module _ (u v : BankMeaning) where
  left_scale : (f : ℕ) → f < u.feeds → (beside u v).scale_of f ≡ u.scale_of f
  left_scale f h = rw (lt-ltb f u.feeds h)

  right_scale : (f : ℕ) → u.feeds ≤ f → (beside u v).scale_of f ≡ v.scale_of (f - u.feeds)
  right_scale f h = rw (le-ltb f u.feeds h)

  pub beside_lawful : LawfulBank u → LawfulBank v → LawfulBank (beside u v)
  beside_lawful lu lv f h = elim (cases_lt f u.feeds) [
    | inl l ↦ subst LawfulForm (sym (left_scale f l)) (lu f l)
    | inr g ↦ subst LawfulForm (sym (right_scale f g)) (lv (f - u.feeds) (omega arith))
  ]

  -- a feed of the whole is one of the left bank or, its number less those of the left, one of the right
  module _ {A : Type 0} (answer : FormMeaning → Result A Refusal) where
    pub from_left : (f : ℕ) → f < 64 → f < u.feeds → of_feed u f (answer (u.scale_of f)) ≡ of_feed (beside u v) f (answer ((beside u v).scale_of f))
    from_left f h l =
        let whole : f < u.feeds + v.feeds = omega arith in
        rw (lt-ltb f 64 h, lt-ltb f u.feeds l, lt-ltb f (u.feeds + v.feeds) whole)

    pub from_right : (f : ℕ) → f < 64 → u.feeds ≤ f → of_feed v (f - u.feeds) (answer (v.scale_of (f - u.feeds))) ≡ of_feed (beside u v) f (answer ((beside u v).scale_of f))
    from_right f h g =
        let small : f - u.feeds < 64 = omega arith in
        elim (cases_lt f (u.feeds + v.feeds)) [
          | inl l ↦ let in_right : f - u.feeds < v.feeds = omega arith in rw (lt-ltb f 64 h, lt-ltb (f - u.feeds) 64 small, le-ltb f u.feeds g, lt-ltb f (u.feeds + v.feeds) l, lt-ltb (f - u.feeds) v.feeds in_right)
          | inr k ↦ let past : v.feeds ≤ f - u.feeds = omega arith in rw (lt-ltb f 64 h, lt-ltb (f - u.feeds) 64 small, le-ltb f (u.feeds + v.feeds) k, le-ltb (f - u.feeds) v.feeds past)
        ]

    pub from_none : (f : ℕ) → 64 ≤ f → ◌≡◌ {A = Result A Refusal} (Err NoFeed) (of_feed (beside u v) f (answer ((beside u v).scale_of f)))
    from_none f h = rw (le-ltb f 64 h)
