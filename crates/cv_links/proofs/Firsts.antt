-- The first places of texts.
use Rattle.std.proofs.Common.{◌≡◌, ℕ, zero, suc, add-one, ◌+◌, ◌<◌, Bool, true, false, cond, ◌&&◌, not, bytes_eq, List, [], ◌∷◌, length, take, Option, Some, None, Result, Ok, Err, OnOk, is_some, ◌⊎◌, inl, inr, refl, sym, ap, ◌∙◌, arith, slice_get}
use Rattle.std.proofs.lemmas.Bool.Decides.{Decides-like, same_from_decides}
use Rattle.std.proofs.lemmas.Iterator.Adapters.{position_from-zero}
use Rattle.std.proofs.lemmas.Map.Text.{is_eq-slice_cmp}
use Rattle.std.proofs.lemmas.Slice.Eq.{bytes_eq-Decides}
use Rattle.std.specs.BTreeMap.{BTreeMap, Updates, get_by}
use Rattle.std.specs.Borrow.{Bor}
use Rattle.std.specs.Cmp.Lexicographic.{slice_cmp}
use Rattle.std.specs.List.{position, position_from}
use Rattle.std.specs.Map.{lookup}
use Rattle.std.specs.Option.{option_and_then, option_map}
use Rattle.std.specs.Ordering.{is_eq, nat_cmp}
use Rattle.cv_type_defs.specs.Records.{Head, Leaf, complete_place, head_of, is_forward, is_same_leaf, is_text, has_name_of, kind_at}
use Rattle.cv_type_records.specs.declared.kinds.TypeRec.{TypeRec}
use Rattle.cv_links.specs.declared.completes.Completes.{Completes}
use Rattle.cv_links.specs.declared.completes.Names.{Names}
use Rattle.cv_links.specs.Named.{PutsFirst, PutsNames, AreNames, AreCompletes, by_name, by_unique, completes, first_of, place_if, place_of}

bytes_sym : (a b : List ℕ) → bytes_eq a b ≡ bytes_eq b a
bytes_sym a b = same_from_decides (bytes_eq a b) (bytes_eq b a) (bytes_eq-Decides a b) (Decides-like (bytes_eq b a) (λ (e : b ≡ a). sym e) (λ (e : a ≡ b). sym e) (bytes_eq-Decides b a))

-- what had a place keeps it
pub keeps : (o : Option ℕ) → first_of o None ≡ o
keeps None = refl
keeps (Some place) = refl

-- one more element has its place, if it passes and none before it does
from_longer : {A : Type 0} (p : A → Bool) (k : ℕ) (xs : List A) (i : ℕ) (x : A) → slice_get xs i ≡ Some x
    → position_from p k (take (suc i) xs) ≡ first_of (position_from p k (take i xs)) (place_if (p x) (k + i))
from_longer p k [] i x e = absurd (cc)
from_longer p k (y ∷ ys) zero x e =
    let same : y ≡ x = cc in
    let none : k ≡ k + 0 = omega arith in
    ap (λ z. cond (p z) (Some k) None) same ∙ ap (λ n. cond (p x) (Some n) None) none
from_longer p k (y ∷ ys) (suc i) x e =
    let there : (k + 1) + i ≡ k + suc i = omega arith in
    by_test (p y) (from_longer p (k + 1) ys i x e ∙ ap (λ n. first_of (position_from p (k + 1) (take i ys)) (place_if (p x) n)) there)
  where
    by_test : (b : Bool) → position_from p (k + 1) (take (suc i) ys) ≡ first_of (position_from p (k + 1) (take i ys)) (place_if (p x) (k + suc i))
        → cond b (Some k) (position_from p (k + 1) (take (suc i) ys)) ≡ first_of (cond b (Some k) (position_from p (k + 1) (take i ys))) (place_if (p x) (k + suc i))
    by_test true further = refl
    by_test false further = further

pub one_longer : (records : List TypeRec) (i : ℕ) (r : TypeRec) (h : Head) → slice_get records i ≡ Some r
    → complete_place (take (suc i) records) h ≡ first_of (complete_place (take i records) h) (place_if (completes h (head_of r.kind)) i)
one_longer records i r h e =
    let p : TypeRec → Bool = λ x. completes h (head_of x.kind) in
    let none : 0 + i ≡ i = omega arith in
    position_from-zero p (take (suc i) records) ∙ from_longer p 0 records i r e
    ∙ ap (λ o. first_of o (place_if (p r) (0 + i))) (sym (position_from-zero p (take i records)))
    ∙ ap (λ n. first_of (position p (take i records)) (place_if (p r) n)) none

text_at : (m : BTreeMap (Bor (List ℕ)) ℕ) (a b : Bor (List ℕ)) → a.now ≡ b.now → place_of m a ≡ place_of m b
text_at m a b e = ap (λ (t : List ℕ). get_by (λ (k : Bor (List ℕ)). slice_cmp nat_cmp t k.now) m) e

-- a text that had no place has one
pub put_new : (m n : BTreeMap (Bor (List ℕ)) ℕ) (text : Bor (List ℕ)) (place : ℕ) → Updates (λ (a b : Bor (List ℕ)). slice_cmp nat_cmp a.now b.now) m n text (Some place) → place_of m text ≡ None → PutsFirst m n (Some text.now) place
put_new m n text place u none q =
    u.0 q ∙ ap (λ b. cond b (Some place) (place_of m q)) (is_eq-slice_cmp text.now q.now)
    ∙ by_test (bytes_eq text.now q.now) (bytes_eq-Decides text.now q.now).0
    ∙ ap (λ b. first_of (place_of m q) (place_if b place)) (bytes_sym text.now q.now)
  where
    by_test : (b : Bool) → (b ≡ true → text.now ≡ q.now) → cond b (Some place) (place_of m q) ≡ first_of (place_of m q) (place_if b place)
    by_test true same = ap (λ o. first_of o (Some place)) (sym (text_at m q text (sym (same refl)) ∙ none))
    by_test false same = sym (keeps (place_of m q))

some_stays : (o other : Option ℕ) → is_some o ≡ true → o ≡ first_of o other
some_stays None other h = absurd (cc)
some_stays (Some place) other h = refl

-- a text that had a place keeps it
pub put_old : (m : BTreeMap (Bor (List ℕ)) ℕ) (text : Bor (List ℕ)) (place : ℕ) → is_some (place_of m text) ≡ true → PutsFirst m m (Some text.now) place
put_old m text place some q = by_test (bytes_eq q.now text.now) (bytes_eq-Decides q.now text.now).0
  where
    by_test : (b : Bool) → (b ≡ true → q.now ≡ text.now) → place_of m q ≡ first_of (place_of m q) (place_if b place)
    by_test true same = some_stays (place_of m q) (Some place) (ap is_some (text_at m q text (same refl)) ∙ some)
    by_test false same = sym (keeps (place_of m q))

pub put_none : (m : BTreeMap (Bor (List ℕ)) ℕ) (place : ℕ) → PutsFirst m m None place
put_none m place q = sym (keeps (place_of m q))

only_test : (f s b : Bool) → f ≡ false → s ≡ true → (not f && (s && b)) ≡ b
only_test false true b e g = refl
only_test true s b e g = absurd (cc)
only_test false false b e g = absurd (cc)

-- a complete record is found by its names
pub names_on : (records : List TypeRec) (i : ℕ) (r : TypeRec) (c : Head) (leaf : Leaf) (old new : Names) → slice_get records i ≡ Some r → head_of r.kind ≡ Some c
    → is_forward c ≡ false → is_same_leaf leaf c.leaf ≡ true → PutsNames old new c i → AreNames (take i records) leaf old → AreNames (take (suc i) records) leaf new
names_on records i r c leaf old new there is complete same puts are = record {
  names = λ q. puts.name q ∙ ap (λ o. first_of o (place_if (bytes_eq q.now c.name) i)) (are.names q) ∙ found (by_name leaf q.now) (bytes_eq q.now c.name) (ap (completes (by_name leaf q.now)) is ∙ only_test (is_forward c) (is_same_leaf leaf c.leaf) (bytes_eq q.now c.name) complete same);
  uniques = λ q. puts.unique q ∙ ap (λ o. first_of o (place_if (is_text q.now c.unique) i)) (are.uniques q) ∙ found (by_unique leaf q.now) (is_text q.now c.unique) (ap (completes (by_unique leaf q.now)) is ∙ only_test (is_forward c) (is_same_leaf leaf c.leaf) (is_text q.now c.unique) complete same);
}
  where
    found : (h : Head) (b : Bool) → completes h (head_of r.kind) ≡ b → first_of (complete_place (take i records) h) (place_if b i) ≡ complete_place (take (suc i) records) h
    found h b e = ap (λ t. first_of (complete_place (take i records) h) (place_if t i)) (sym e) ∙ sym (one_longer records i r h there)

-- a record that completes none of a leaf changes nothing
pub names_stay : (records : List TypeRec) (i : ℕ) (r : TypeRec) (leaf : Leaf) (kept : Names) → slice_get records i ≡ Some r
    → ((h : Head) → h.leaf ≡ leaf → completes h (head_of r.kind) ≡ false) → AreNames (take i records) leaf kept → AreNames (take (suc i) records) leaf kept
names_stay records i r leaf kept there never are = record {
  names = λ q. are.names q ∙ found (by_name leaf q.now) (never (by_name leaf q.now) refl);
  uniques = λ q. are.uniques q ∙ found (by_unique leaf q.now) (never (by_unique leaf q.now) refl);
}
  where
    found : (h : Head) → completes h (head_of r.kind) ≡ false → complete_place (take i records) h ≡ complete_place (take (suc i) records) h
    found h e =
        sym (keeps (complete_place (take i records) h)) ∙ ap (λ t. first_of (complete_place (take i records) h) (place_if t i)) (sym e)
        ∙ sym (one_longer records i r h there)

no_test : (f s b : Bool) → (f ≡ true) ⊎ (s ≡ false) → (not f && (s && b)) ≡ false
no_test true s b h = refl
no_test false true b (inl e) = absurd (cc)
no_test false true b (inr e) = absurd (cc)
no_test false false b h = refl

no_record : (h : Head) (o : Option Head) → o ≡ None → completes h o ≡ false
no_record h o e = ap (completes h) e

no_forward : (h c : Head) (o : Option Head) → o ≡ Some c → is_forward c ≡ true → completes h o ≡ false
no_forward h c o e f = ap (completes h) e ∙ by_unique_name h.unique
  where
    by_unique_name : (u : Option (List ℕ)) → (not (is_forward c) && (is_same_leaf h.leaf c.leaf && has_name_of u h.name c)) ≡ false
    by_unique_name u = no_test (is_forward c) (is_same_leaf h.leaf c.leaf) (has_name_of u h.name c) (inl f)

no_leaf : (h c : Head) (o : Option Head) → o ≡ Some c → is_same_leaf h.leaf c.leaf ≡ false → completes h o ≡ false
no_leaf h c o e f = ap (completes h) e ∙ no_test (is_forward c) (is_same_leaf h.leaf c.leaf) (has_name_of h.unique h.name c) (inr f)

pub there_is : (records : List TypeRec) (i : ℕ) → i < length records → (r : TypeRec) × (slice_get records i ≡ Some r)
there_is [] i h = absurd (omega (arith, h))
there_is (r ∷ records) zero h = (r, refl)
there_is (r ∷ records) (suc i) h = there_is records i (omega (arith, h))

-- what is read of a record is its head
pub head_there : (records : List TypeRec) (i : ℕ) (r : TypeRec) (o : Option Head) → slice_get records i ≡ Some r → o ≡ option_and_then head_of (kind_at records i) → head_of r.kind ≡ o
head_there records i r o there e = sym (e ∙ ap (λ (x : Option TypeRec). option_and_then head_of (option_map (λ t. t.kind) x)) there)

-- a record that completes nothing changes nothing
pub all_stay : (records : List TypeRec) (i : ℕ) (r : TypeRec) (kept : Completes) → slice_get records i ≡ Some r → ((h : Head) → completes h (head_of r.kind) ≡ false)
    → AreCompletes (take i records) kept → AreCompletes (take (suc i) records) kept
all_stay records i r kept there never are = record {
  structures = names_stay records i r Leaf.Structure kept.structures there (λ h e. never h) are.structures;
  unions = names_stay records i r Leaf.«Union» kept.unions there (λ h e. never h) are.unions;
  enums = names_stay records i r Leaf.Enum kept.enums there (λ h e. never h) are.enums;
}

pub without_head : (records : List TypeRec) (i : ℕ) (kept : Completes) → i < length records → ◌≡◌ {A = Option Head} None (option_and_then head_of (kind_at records i))
    → AreCompletes (take i records) kept → AreCompletes (take (i + 1) records) kept
without_head records i kept inside e are =
    let r = there_is records i inside in
    rw add-one (all_stay records i r.0 kept r.1 (λ h. no_record h (head_of r.0.kind) (head_there records i r.0 None r.1 e)) are)

pub forward_stays : (records : List TypeRec) (i : ℕ) (c : Head) (kept : Completes) → i < length records → Some c ≡ option_and_then head_of (kind_at records i) → is_forward c ≡ true
    → AreCompletes (take i records) kept → AreCompletes (take (i + 1) records) kept
forward_stays records i c kept inside e forward are =
    let r = there_is records i inside in
    rw add-one (all_stay records i r.0 kept r.1 (λ h. no_forward h c (head_of r.0.kind) (head_there records i r.0 (Some c) r.1 e) forward) are)

-- the maps of one leaf change, where a complete record of that leaf is added
leaf_on : (records : List TypeRec) (i : ℕ) (c : Head) (leaf : Leaf) (old new : Names) → i < length records → Some c ≡ option_and_then head_of (kind_at records i) → is_forward c ≡ false
    → is_same_leaf leaf c.leaf ≡ true → PutsNames old new c i → AreNames (take i records) leaf old → AreNames (take (suc i) records) leaf new
leaf_on records i c leaf old new inside e complete same puts are =
    let r = there_is records i inside in
    names_on records i r.0 c leaf old new r.1 (head_there records i r.0 (Some c) r.1 e) complete same puts are

leaf_stays : (records : List TypeRec) (i : ℕ) (c : Head) (leaf : Leaf) (kept : Names) → i < length records → Some c ≡ option_and_then head_of (kind_at records i)
    → is_same_leaf leaf c.leaf ≡ false → AreNames (take i records) leaf kept → AreNames (take (suc i) records) leaf kept
leaf_stays records i c leaf kept inside e other are =
    let r = there_is records i inside in
    names_stay records i r.0 leaf kept r.1 (λ h same. no_leaf h c (head_of r.0.kind) (head_there records i r.0 (Some c) r.1 e) (ap (λ l. is_same_leaf l c.leaf) same ∙ other)) are

pub structure_on : (records : List TypeRec) (i : ℕ) (c : Head) (kept : Completes) (new : Names) → i < length records → Some c ≡ option_and_then head_of (kind_at records i) → is_forward c ≡ false
    → c.leaf ≡ Leaf.Structure → PutsNames kept.structures new c i → AreCompletes (take i records) kept → AreCompletes (take (i + 1) records) (record { structures = new; unions = kept.unions; enums = kept.enums })
structure_on records i c kept new inside e complete leaf puts are = rw add-one (record {
  structures = leaf_on records i c Leaf.Structure kept.structures new inside e complete (ap (is_same_leaf Leaf.Structure) leaf) puts are.structures;
  unions = leaf_stays records i c Leaf.«Union» kept.unions inside e (ap (is_same_leaf Leaf.«Union») leaf) are.unions;
  enums = leaf_stays records i c Leaf.Enum kept.enums inside e (ap (is_same_leaf Leaf.Enum) leaf) are.enums;
})

pub union_on : (records : List TypeRec) (i : ℕ) (c : Head) (kept : Completes) (new : Names) → i < length records → Some c ≡ option_and_then head_of (kind_at records i) → is_forward c ≡ false
    → c.leaf ≡ Leaf.«Union» → PutsNames kept.unions new c i → AreCompletes (take i records) kept → AreCompletes (take (i + 1) records) (record { structures = kept.structures; unions = new; enums = kept.enums })
union_on records i c kept new inside e complete leaf puts are = rw add-one (record {
  structures = leaf_stays records i c Leaf.Structure kept.structures inside e (ap (is_same_leaf Leaf.Structure) leaf) are.structures;
  unions = leaf_on records i c Leaf.«Union» kept.unions new inside e complete (ap (is_same_leaf Leaf.«Union») leaf) puts are.unions;
  enums = leaf_stays records i c Leaf.Enum kept.enums inside e (ap (is_same_leaf Leaf.Enum) leaf) are.enums;
})

pub enum_on : (records : List TypeRec) (i : ℕ) (c : Head) (kept : Completes) (new : Names) → i < length records → Some c ≡ option_and_then head_of (kind_at records i) → is_forward c ≡ false
    → c.leaf ≡ Leaf.Enum → PutsNames kept.enums new c i → AreCompletes (take i records) kept → AreCompletes (take (i + 1) records) (record { structures = kept.structures; unions = kept.unions; enums = new })
enum_on records i c kept new inside e complete leaf puts are = rw add-one (record {
  structures = leaf_stays records i c Leaf.Structure kept.structures inside e (ap (is_same_leaf Leaf.Structure) leaf) are.structures;
  unions = leaf_stays records i c Leaf.«Union» kept.unions inside e (ap (is_same_leaf Leaf.«Union») leaf) are.unions;
  enums = leaf_on records i c Leaf.Enum kept.enums new inside e complete (ap (is_same_leaf Leaf.Enum) leaf) puts are.enums;
})

-- nothing is found among no records
pub none_at_first : (leaf : Leaf) (kept : Names) → kept.by_name.entries ≡ [] → kept.by_unique.entries ≡ [] → AreNames [] leaf kept
none_at_first leaf kept e f = record {
  names = λ q. ap (lookup (λ (k : Bor (List ℕ)). is_eq (slice_cmp nat_cmp q.now k.now))) e;
  uniques = λ q. ap (lookup (λ (k : Bor (List ℕ)). is_eq (slice_cmp nat_cmp q.now k.now))) f;
}

-- a forward reference with a unique name is found by it, and one without by its name
pub unique_at : (records : List TypeRec) (h : Head) (unique : List ℕ) → h.unique ≡ Some unique → complete_place records (by_unique h.leaf unique) ≡ complete_place records h
unique_at records h unique e = ap (λ (o : Option (List ℕ)). complete_place records (record { leaf = h.leaf; property = h.property; fields = h.fields; name = h.name; unique = o })) (sym e)

pub name_at : (records : List TypeRec) (h : Head) → h.unique ≡ None → complete_place records (by_name h.leaf h.name) ≡ complete_place records h
name_at records h e = ap (λ (o : Option (List ℕ)). complete_place records (record { leaf = h.leaf; property = h.property; fields = h.fields; name = h.name; unique = o })) (sym e)

pub no_place : (o : Option ℕ) → is_some o ≡ false → o ≡ None
no_place None e = refl
no_place (Some place) e = absurd (cc)

-- what follows where the names were added
pub structure_added : {A E : Type 0} (r : Result A E) (records : List TypeRec) (i : ℕ) (c : Head) (kept : Completes) (new : Names) → i < length records → Some c ≡ option_and_then head_of (kind_at records i) → is_forward c ≡ false
    → c.leaf ≡ Leaf.Structure → OnOk r (PutsNames kept.structures new c i) → OnOk r (AreCompletes (take i records) kept → AreCompletes (take (i + 1) records) (record { structures = new; unions = kept.unions; enums = kept.enums }))
structure_added (Ok a) records i c kept new inside e complete leaf puts = λ are. structure_on records i c kept new inside e complete leaf puts are
structure_added (Err x) records i c kept new inside e complete leaf puts = puts

pub union_added : {A E : Type 0} (r : Result A E) (records : List TypeRec) (i : ℕ) (c : Head) (kept : Completes) (new : Names) → i < length records → Some c ≡ option_and_then head_of (kind_at records i) → is_forward c ≡ false
    → c.leaf ≡ Leaf.«Union» → OnOk r (PutsNames kept.unions new c i) → OnOk r (AreCompletes (take i records) kept → AreCompletes (take (i + 1) records) (record { structures = kept.structures; unions = new; enums = kept.enums }))
union_added (Ok a) records i c kept new inside e complete leaf puts = λ are. union_on records i c kept new inside e complete leaf puts are
union_added (Err x) records i c kept new inside e complete leaf puts = puts

pub enum_added : {A E : Type 0} (r : Result A E) (records : List TypeRec) (i : ℕ) (c : Head) (kept : Completes) (new : Names) → i < length records → Some c ≡ option_and_then head_of (kind_at records i) → is_forward c ≡ false
    → c.leaf ≡ Leaf.Enum → OnOk r (PutsNames kept.enums new c i) → OnOk r (AreCompletes (take i records) kept → AreCompletes (take (i + 1) records) (record { structures = kept.structures; unions = kept.unions; enums = new }))
enum_added (Ok a) records i c kept new inside e complete leaf puts = λ are. enum_on records i c kept new inside e complete leaf puts are
enum_added (Err x) records i c kept new inside e complete leaf puts = puts
