-- The places of each word of an image, linked in rising order.
use Rattle.std.specs.Prelude.{◌≡◌, ◌≢◌, ℕ, ◌+◌, ◌-◌, ◌*◌, ◌<◌, ◌≤◌, List, length, slice_index}

-- the word of two bytes, low byte first
abbrev pub word_of : (low high : ℕ) → ℕ
word_of low high = low + 256 * high

-- the word at a place of an image
abbrev pub word_at : (image : List ℕ) (place : ℕ) → ℕ
word_at image place = word_of (slice_index image place) (slice_index image (place + 1))

-- the first place of a word from one on, or how many places an image has
pub record IsNext (image : List ℕ) (word from answer : ℕ) : Type 0 where
  pub behind : from ≤ answer
  pub within : answer ≤ length image - 1
  pub between : (place : ℕ) → from ≤ place → place < answer → word_at image place ≢ word
  pub here : answer < length image - 1 → word_at image answer ≡ word

-- the tables link the places from one on
pub record AreLinked (image : List ℕ) (from : ℕ) (first next : List ℕ) : Type 0 where
  pub first_len : length first ≡ 65536
  pub next_len : length next ≡ length image - 1
  pub begins : (word : ℕ) → word < 65536 → IsNext image word from (slice_index first word)
  pub goes : (place : ℕ) → from ≤ place → place < length image - 1
      → IsNext image (word_at image place) (place + 1) (slice_index next place)

-- the table of an image
pub record IsTable (image first next counts : List ℕ) : Type 0 where
  pub linked : AreLinked image 0 first next
  pub counted : length counts ≡ 65536
