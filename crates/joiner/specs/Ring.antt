-- The part of a ring that is in use, as a list.
use Rattle.std.specs.Prelude.{ℕ, zero, suc, ◌+◌, ◌%◌, List, [], ◌∷◌, slice_index}

-- the n items from place k of a ring of `places` on
abbrev pub ring_from : ℕ → List ℕ → ℕ → ℕ → List ℕ
ring_from places xs k zero = []
ring_from places xs k (suc n) = slice_index xs k ∷ ring_from places xs ((k + 1) % places) n
