-- Attachments in the order of their subnets' first addresses: runs that begin alike, and the segments of the first ones.
use Rattle.std.specs.Prelude.{◌≡◌, ◌≢◌, ℕ, ◌<◌, ◌≤◌, List, length, slice_index_or, Contains}
use Rattle.walk_core.specs.declared.segment.Port.{Port}
use Rattle.zone_graph.specs.steps.Attachments.{AreOfOneSegment, HasBoth, IsOfAttachments}
use Rattle.zone_graph.specs.declared.attachments.Attachment.{Attachment}

-- the attachment of this place is a
abbrev pub IsAttachmentAt : List Attachment → ℕ → Attachment → Type 0
IsAttachmentAt all place a = (place < length all) × (slice_index_or all place a ≡ a)

-- an earlier attachment is of one segment with that of this place
pub record HasEarlier (all : List Attachment) (place : ℕ) : Type 0 where
  pub before : ℕ
  pub earlier : Attachment
  pub own : Attachment
  pub is_before : before < place
  pub earlier_at : IsAttachmentAt all before earlier
  pub own_at : IsAttachmentAt all place own
  pub same : AreOfOneSegment earlier own

-- the run of a place ends before the first attachment whose subnet begins otherwise
pub record IsRunEnd (all : List Attachment) (place end : ℕ) : Type 0 where
  pub after : place < end
  pub within : end ≤ length all
  pub other : (a b : Attachment) → IsAttachmentAt all place a → IsAttachmentAt all end b → a.link.subnet.base ≢ b.link.subnet.base

-- attachments from this place on that are of one segment with that of the place are joined
abbrev pub JoinsFrom : List Attachment → ℕ → List (List Port) → Type 0
JoinsFrom all place segments = (like : Attachment) → IsAttachmentAt all place like →
    (i j : ℕ) (a b : Attachment) → place ≤ i → place ≤ j → IsAttachmentAt all i a → IsAttachmentAt all j b →
    AreOfOneSegment a like → AreOfOneSegment b like → a.router ≢ b.router → HasBoth segments a b

-- the segments of the places below n that are the first of their segment
pub record AreSegmentsTo (all : List Attachment) (n : ℕ) (segments : List (List Port)) : Type 0 where
  pub sound : (segment : List Port) → Contains segments segment → IsOfAttachments all segment
  pub every : (place : ℕ) → place < n → (HasEarlier all place → ⊥) → JoinsFrom all place segments
