-- What is known of a device: the crash model.
use Rattle.std.specs.Prelude.{ℕ, ◌-◌, ◌^◌, ◌<◌}
use Rattle.audit_disk_model.specs.Image.{Image, IsWhole}

-- the maximum of a clock, and of a count of failures
abbrev pub last_count : ℕ
last_count = 2 ^ 64 - 1

-- What is known of a device. `IsWrite` and `IsSync` say how the images arise that a crash may leave.
pub record View : Type 1 where
  -- the number of its sectors
  pub size : ℕ
  -- what successful reads return, sector by sector
  pub content : Image
  -- how many writes and syncs have returned, including failed ones; a crash during one is before or after it
  pub clock : ℕ
  -- the images that a crash at this moment of the clock may leave
  pub left_at : ℕ → Image → Type 0
  -- it rises at each failed call, and at no other
  pub failures : ℕ
  -- the device behaves as the clauses about content and images say
  pub honest : Type 0
  pub size_fits : size < 2 ^ 64
  pub clock_fits : clock < 2 ^ 64
  -- the content is one of the images that a crash now may leave
  pub content_left : honest → left_at clock content
  -- a crash leaves all sectors, each of full length
  pub whole : honest → (moment : ℕ) (image : Image) → left_at moment image → IsWhole size image
