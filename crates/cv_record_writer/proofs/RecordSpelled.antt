-- A record that is written is spelled wherever it stands.
use Rattle.std.proofs.Common.{◌≡◌, ◌<◌, ◌≤◌, ℕ, suc, ◌+◌, ◌-◌, ◌^◌, List, [], ◌∷◌, ◌++◌, length, take, refl, sym, ap, subst, ◌∙◌, arith, append-nil, append_assoc, length-append}
use Rattle.std.proofs.lemmas.Bool.{lt-leb}
use Rattle.byteorder.specs.Endian.{little_bytes}
use Rattle.byteorder.specs.Numbers.{length-bytes_low_first}
use Rattle.rv_bytes.specs.Forms.{Form}
use Rattle.rv_bytes.specs.Writers.{SpellsEverywhere}
use Rattle.cv_parts.specs.Puts.{pad_size}
use Rattle.cv_parts.specs.Records.{content, a_record}
use Rattle.cv_parts.proofs.PutForms.{number_spelled}
use Rattle.cv_record_writer.specs.Contents.{zeros, padded, record_bytes}

-- a content after its length
content_spelled : (c : List ℕ) → 2 ≤ length c → length c ≤ 65535 → SpellsEverywhere content c (record_bytes c)
content_spelled c a b n = (
  (length c, record { front = little_bytes 2 (length c); back = c; split = refl; is_front = number_spelled 2 (length c) (omega (arith, b)) n; is_back = (refl, refl) }),
  rw (lt-leb (suc (length c)) 2 (omega (arith, a))) refl,
)

-- a kind, fields, and bytes that are passed over
pub record_spelled : {A B : Type 0} (g : ℕ → A → B) (F : ℕ → ℕ → Form ℕ A) (kind : ℕ) (v : A) (fields pad : List ℕ) → kind < 256 ^ 2 → length ((little_bytes 2 kind ++ fields) ++ pad) ≤ 65535
    → SpellsEverywhere (F kind (length ((little_bytes 2 kind ++ fields) ++ pad) - 2)) v fields → (n : ℕ) → (a_record g F).spells n (g n v) (record_bytes ((little_bytes 2 kind ++ fields) ++ pad))
record_spelled g F kind v fields pad k b s n =
    let c = (little_bytes 2 kind ++ fields) ++ pad in
    let two : 2 ≤ length c = omega (arith, length-append (little_bytes 2 kind ++ fields) pad, length-append (little_bytes 2 kind) fields, length-bytes_low_first 0 2 kind) in (
      v,
      (
        refl,
        (
          c,
          record {
            front = record_bytes c;
            back = [];
            split = sym (append-nil (record_bytes c));
            is_front = content_spelled c two b n;
            is_back = (
              refl,
              record {
                front = little_bytes 2 kind ++ fields;
                back = pad;
                split = refl;
                is_front = (kind, record { front = little_bytes 2 kind; back = fields; split = refl; is_front = number_spelled 2 kind k (n + 2); is_back = s (n + 2 + length (little_bytes 2 kind)) });
                is_back = tt;
              },
            );
          },
        ),
      ),
    )

-- how many bytes follow a kind
pub after_kind : (kind : ℕ) (fields pad : List ℕ) → length ((little_bytes 2 kind ++ fields) ++ pad) - 2 ≡ length fields + length pad
after_kind kind fields pad = omega (arith, length-append (little_bytes 2 kind ++ fields) pad, length-append (little_bytes 2 kind) fields, length-bytes_low_first 0 2 kind)
