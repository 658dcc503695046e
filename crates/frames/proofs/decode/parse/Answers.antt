use Rattle.std.proofs.Common.{◌≡◌, ℕ, ◌-◌, ◌<◌, ◌≢◌, List, [], ◌∷◌, length, get_or, take, drop, None, refl, sym, ap, ◌∙◌, arith}
use Rattle.std.proofs.lemmas.List.{take_all}
use Rattle.std.proofs.lemmas.Bool.{ne_eqb}
use Rattle.wire.specs.Decoder.{parsed, call_of}
use Rattle.wire.specs.declared.kind.Kind.{Kind}
use Rattle.wire.specs.declared.kind.Kind.TheVariants.{Put, Close, Take, Renew}
use Rattle.wire.specs.Kind.{kind_byte}
use Rattle.frames.proofs.decode.parse.Goals as goal

-- `rest @ ..` after one byte is `take (length xs - 1) (drop 1 xs)`
split : (xs : List ℕ) → 0 < length xs → call_of (get_or xs 0 0) (take (length xs - 1) (drop 1 xs)) ≡ parsed xs
split [] h = absurd (omega arith)
split (x ∷ xs) h = ap (call_of x) (take_all (length (x ∷ xs) - 1) xs (omega arith))

no_kind : (n : ℕ) (rest : List ℕ) → ((kind : Kind) → kind_byte kind ≢ n) → call_of n rest ≡ None
no_kind n rest other = rw (ne_eqb n 1 (λ e. other Put (sym e)), ne_eqb n 2 (λ e. other Close (sym e)), ne_eqb n 3 (λ e. other Take (sym e)), ne_eqb n 4 (λ e. other Renew (sym e)))

no_call : (xs : List ℕ) → 0 < length xs → ((kind : Kind) → kind_byte kind ≢ get_or xs 0 0) → None ≡ parsed xs
no_call [] h other = refl
no_call (x ∷ xs) h other = sym (no_kind x xs other)

pub returns-in_default-try_from : goal.returns-in_default-try_from
returns-in_default-try_from c = no_call c.args.bytes.now (omega arith) c.in_default-try_from.ensures.0

pub returns : goal.returns
returns c =
    let xs = c.args.bytes.now in
    c.parse_kind.ensures ∙ ap (λ (n : ℕ). call_of n (take (length xs - 1) (drop 1 xs))) c.in-Ok.ensures ∙ split xs (omega arith)
