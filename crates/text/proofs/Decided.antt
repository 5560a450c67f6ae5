-- What is put into lent bytes is decided.
--
--   put_text_decided   a text, put at a place of the same bytes, leaves the same place and the same bytes
--   added_decided      so of what is added to a `Text`
use mathlib.Core.Path.{◌≡◌}
use mathlib.Core.List.{List}
use Prim.Native.Nat.{ℕ}
use Rattle.text.specs.Put.{Put, Added}
use Rattle.text.specs.declared.Text.{Text}

pub put_text_decided : (text out : List ℕ) (at n n' : ℕ) (o o' : List ℕ) → Put text out at n o → Put text out at n' o' → (n ≡ n') × (o ≡ o')
put_text_decided text out at n n' o o' p q =
    (cc (p.place, q.place), cc (p.place, q.place, p.bytes, q.bytes))

pub added_decided : (t : List ℕ) (o n n' : Text) → Added t o n → Added t o n' → (n.at ≡ n'.at) × (n.out.now ≡ n'.out.now)
added_decided t o n n' p q = put_text_decided t o.out.now o.at n.at n'.at n.out.now n'.out.now p.put q.put
