-- The first bytes of frames.
use Rattle.std.specs.Prelude.{◌≡◌, ◌≢◌, ℕ, List, ◌++◌, Result, MatchResult, codes}
use Rattle.std.specs.Fmt.{decimal}
use Rattle.wire.specs.declared.kind.Kind.{Kind}
use Rattle.wire.specs.declared.kind.Kind.TheVariants.{Put, Close, Take, Renew}
use Rattle.wire.specs.declared.kind.UnknownKind.{UnknownKind}

abbrev pub kind_byte : Kind → ℕ
kind_byte Put = 1
kind_byte Close = 2
kind_byte Take = 3
kind_byte Renew = 4

-- the result is the kind that the byte stands for or, where it stands for none, tells the byte
abbrev pub IsKindOf : ℕ → Result Kind UnknownKind → Type 0
IsKindOf byte r = MatchResult r (λ kind. kind_byte kind ≡ byte) (λ e. ((kind : Kind) → kind_byte kind ≢ byte) × (e.0 ≡ byte))

-- a byte that no frame begins with, in words
abbrev pub unknown_words : ℕ → List ℕ
unknown_words byte = codes "no frame begins with the byte " ++ decimal byte
