-- Bytes written into lent bytes.
use Rattle.std.specs.Prelude.{◌≡◌, List, ◌++◌, ℕ, ◌+◌, length, take, drop}

-- the bytes bs from `at` on, and around them those that stand there
unfoldable pub placed : List ℕ → ℕ → List ℕ → List ℕ
placed out at bs = take at out ++ (bs ++ drop (at + length bs) out)

-- the bytes bs are written at `at`, and no other byte; the end is just past them
pub record Written (out : List ℕ) (at : ℕ) (bs : List ℕ) (after : List ℕ) (end : ℕ) : Type 0 where
  pub bytes : after ≡ placed out at bs
  pub ends : end ≡ at + length bs
