-- A call in bytes. Assumes nothing: a definition, and a law of it.
use Rattle.std.specs.Prelude.{ℕ, ◌+◌, ◌*◌, List, get_or, ◌≡◌, refl}
use Rattle.forms.specs.Parts.{rd}
use Rattle.rooms.specs.declared.calls.Call.{Call}

-- A number of four bytes, the low one first.
abbrev pub wide_of : ℕ → List ℕ → ℕ
wide_of at b = rd b at + 65536 * rd b (at + 2)

-- The call that twenty-two bytes say.
abbrev pub call_of : List ℕ → Call
call_of b =
    record {
      operation = get_or b 0 0;
      mode = get_or b 1 0;
      attribute = rd b 2;
      room = rd b 4;
      workspace = rd b 6;
      schema = rd b 8;
      first = rd b 10;
      second = rd b 12;
      limits = record { levels = wide_of 14 b; bytes = wide_of 18 b };
    }

-- Its fields, read one by one.
pub call-is : (b : List ℕ) {a r w s f g l n : ℕ} → a ≡ rd b 2 → r ≡ rd b 4 → w ≡ rd b 6 → s ≡ rd b 8 → f ≡ rd b 10 → g ≡ rd b 12 → l ≡ wide_of 14 b →
    n ≡ wide_of 18 b → ◌≡◌ {A = Call} (
    record {
      operation = get_or b 0 0;
      mode = get_or b 1 0;
      attribute = a;
      room = r;
      workspace = w;
      schema = s;
      first = f;
      second = g;
      limits = record { levels = l; bytes = n };
    }
    ) (call_of b)
call-is b p q u v x y i j = rw (p, q, u, v, x, y, i, j) refl
