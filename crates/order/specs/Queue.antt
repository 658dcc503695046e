-- The queue of waiting feeds, beside the feeds' states.
use Rattle.std.specs.Prelude.{◌≡◌, ℕ, Bool, true, false, cond, List, [], ◌∷◌, map, length, filter, nat_eq, slice_index_or}
use Rattle.std.specs.Simd.Lanes.{mask_l}
use Rattle.order.specs.declared.state.FeedState.{FeedState}
use Rattle.order.specs.declared.state.FeedState.TheVariants.{Idle, Holding, Closing, Closed}

abbrev pub has_record : FeedState → Bool
has_record Idle = false
has_record (Holding t) = true
has_record (Closing t) = true
has_record Closed = false

-- the queue has each feed with a record once, and no other
abbrev pub Queued : List FeedState → List ℕ → Type 0
Queued feeds queue = (f : ℕ) → filter (λ g. nat_eq g f) queue ≡ cond (has_record (slice_index_or feeds f Closed)) (f ∷ []) []

-- and so it is as long as there are such feeds
abbrev pub Counted : List FeedState → ℕ → Type 0
Counted feeds waiting = waiting ≡ length (filter has_record feeds)

abbrev pub is_idle : FeedState → Bool
is_idle Idle = true
is_idle (Holding t) = false
is_idle (Closing t) = false
is_idle Closed = false

-- the idle feeds as a number: feed f has the bit of weight 2 ^ f
abbrev pub idle_mask : List FeedState → ℕ
idle_mask feeds = mask_l (map is_idle feeds)
