-- Words that turn types into others, one type after the other, and give FUNCs linkages.
use Rattle.std.proofs.Common.{◌≡◌, ◌+◌, ◌*◌, ◌^◌, ◌<◌, ◌≤◌, ◌⊎◌, inl, inr, ◌==◌, ℕ, zero, suc, true, false, cond, List, [], ◌∷◌, ◌++◌, length, Some, refl, sym, ap, ◌∙◌, arith, subst}
use Rattle.std.specs.Prelude.{map, slice_get}
use Rattle.std.proofs.lemmas.Bool.{cases_order}
use Rattle.std.proofs.lemmas.Bool.Decides.{nat_tests}
use Rattle.std.proofs.lemmas.List.{length-map}
use Rattle.std.proofs.lemmas.List.Sums.{fold-append}
use Rattle.ebpf_base.specs.declared.endianness.Endianness.{Endianness}
use Rattle.ebpf_btf.proofs.InOrder.{items_length}
use Rattle.ebpf_btf.proofs.Lengths.{at_least}
use Rattle.ebpf_btf.proofs.Spelling.{kind_of_spelled}
use Rattle.ebpf_btf.specs.Format.{IsTypeAt, end_of, entry_at, further_words, info_at, info_kind, info_vlen, param_at, spelled, vlen_at, word}
use Rattle.ebpf_btf.specs.Words.{count_of, type_length}
use Rattle.ebpf_btf.specs.Items.{items_at}
use Rattle.ebpf_btf.specs.Types.{kind_of, kind_number}
use Rattle.ebpf_btf.specs.declared.kind.BtfKind.{BtfKind}
use Rattle.ebpf_btf.specs.declared.kind.BtfKind.TheVariants as kinds
use Rattle.ebpf_btf.specs.declared.members.BtfParam.{BtfParam}
use Rattle.ebpf_btf.specs.declared.members.DataSecEntry.{DataSecEntry}
use Rattle.ebpf_btf.specs.declared.types.BtfType.{BtfType}
use Rattle.ebpf_btf.specs.declared.types.BtfType.TheVariants.{FuncProto, DataSec, Func, Unknown, Var}
use Rattle.ebpf_btf_load.proofs.Standing.{ParamsLike, params_of, AreLike, IsLike, Tiled, like_back, like_changed, like_length, like_place, like_there, not_before, place, type_changed, type_there, unchanged}
use Rattle.ebpf_btf_load.proofs.WrittenWords.{at_word, AreBetween, AreSmall, between_wider, first_stands, length_words_over, named_like, params_between, params_stand, rows_between, rows_stand, word_here, words_apart, words_append}
use Rattle.ebpf_btf_load.specs.SectionWords.{rows_words, section_words}
use Rattle.ebpf_btf_load.specs.KsymsSections.{FunctionLinkage, linkage_by, params_words}
use Rattle.ebpf_btf_load.specs.KernelTypes.{Change, Entries, Linkage, ParamNames, TypeAndLinkage, TypeChange, changed, changed_at, named_param, with_change, with_changes, word_over, words_over}
use Rattle.ebpf_btf_load.specs.TypeSources.{start_of, TypeSources}
use Rattle.ebpf_btf_load.specs.declared.ksyms.Standins.{Standins}
use Rattle.ebpf_btf_load.specs.declared.words.WrittenWord.{WrittenWord}

-- ---- types and words

-- types stand in bytes, one after the other, and are like the first ones
pub record Stands (o : Endianness) (name : ℕ) (first : List BtfType) (part : List ℕ) (now : List BtfType) : Type 0 where
  pub tiled : Tiled o part 0 now
  pub like : AreLike name first now

-- where each of the first types begins
abbrev pub ArePlaced : List BtfType → List ℕ → Type 0
ArePlaced first starts = (k : ℕ) (t : BtfType) → slice_get first k ≡ Some t → start_of starts (suc k) ≡ place 0 first k

-- what the words of sections are found from: types that stand in bytes, and numbers of 32 bits
pub record AreReady (g : TypeSources) (s : Standins) (first : List BtfType) : Type 0 where
  pub all : g.types.types ≡ Unknown ∷ first
  pub placed : ArePlaced first g.starts
  pub name : s.name_offset < 2 ^ 32
  pub int : s.int_id < 2 ^ 32
  pub variable : s.variable_id < 2 ^ 32
  pub inside : (k : ℕ) (t : BtfType) → slice_get first k ≡ Some t → place 0 first k + type_length t ≤ length g.part
  pub small : (id name size : ℕ) (rows : List DataSecEntry) → slice_get g.types.types id ≡ Some (DataSec name size rows) → (size < 2 ^ 32) × AreSmall rows

-- words that are written give the FUNCs among the types these linkages
abbrev pub Sets : TypeSources → List WrittenWord → List FunctionLinkage → Type 0
Sets g ws ls = (part : List ℕ) → length part ≡ length g.part → (id name proto : ℕ) → slice_get g.types.types id ≡ Some (Func name proto)
    → info_vlen (word g.order (words_over g.order part ws) (start_of g.starts id + 4)) ≡ linkage_by ls id (info_vlen (word g.order part (start_of g.starts id + 4)))

-- they make changes of the types, and set linkages
pub record TurnsOf (g : TypeSources) (s : Standins) (first : List BtfType) (ws : List WrittenWord) (cs : List TypeChange) (ls : List FunctionLinkage) : Type 0 where
  pub turns : (part : List ℕ) (now : List BtfType) → Stands g.order s.name_offset first part now
      → (after : List BtfType) × (with_changes (Unknown ∷ now) cs ≡ Unknown ∷ after) × Stands g.order s.name_offset first (words_over g.order part ws) after
  pub sets : Sets g ws ls

module _ {g : TypeSources} {s : Standins} {first : List BtfType} where
  pub nothing : TurnsOf g s first [] [] []
  nothing = record { turns = λ part now stands. (now, refl, stands); sets = λ part long id name proto is. refl }

  pub both : {vs ws : List WrittenWord} {cs ds : List TypeChange} {ls ms : List FunctionLinkage} → TurnsOf g s first vs cs ls → TurnsOf g s first ws ds ms
      → TurnsOf g s first (vs ++ ws) (cs ++ ds) (ls ++ ms)
  both {vs} {ws} {cs} {ds} {ls} {ms} one other = record {
    turns = λ part now stands.
        let a = one.turns part now stands in
        let b = other.turns (words_over g.order part vs) a.0 a.2 in (
          b.0,
          fold-append with_change (Unknown ∷ now) cs ds ∙ ap (λ ts. with_changes ts ds) a.1 ∙ b.1,
          subst (λ (bytes : List ℕ). Stands g.order s.name_offset first bytes b.0) (sym (words_append g.order part vs ws)) b.2,
        );
    sets = λ part long id name proto is.
        ap (λ bytes. info_vlen (word g.order bytes (start_of g.starts id + 4))) (words_append g.order part vs ws)
        ∙ other.sets (words_over g.order part vs) (length_words_over g.order part vs ∙ long) id name proto is
        ∙ ap (linkage_by ms id) (one.sets part long id name proto is)
        ∙ sym (fold-append (λ now l. cond (l.id == id) l.linkage now) (info_vlen (word g.order part (start_of g.starts id + 4))) ls ms);
  }

  -- a change that leaves each type of the kind that the id has changes nothing
  pub idle : (id : ℕ) (c : Change) → ((t u : BtfType) → slice_get (Unknown ∷ first) id ≡ Some t → kind_of u ≡ kind_of t → changed u c ≡ u)
      → TurnsOf g s first [] (record { id = id; change = c } ∷ []) []
  idle id c same = record {
    turns = λ part now stands. (now, unchanged id (λ t. changed t c) (Unknown ∷ now) (by_now now stands.like), stands);
    sets = λ part long id name proto is. refl;
  }
    where
      by_now : (now : List BtfType) → AreLike s.name_offset first now → (u : BtfType) → slice_get (Unknown ∷ now) id ≡ Some u → changed u c ≡ u
      by_now now like u here =
          let void : IsLike s.name_offset Unknown Unknown = record { kind = refl; count = refl; params = tt } in
          let found = like_back s.name_offset (Unknown ∷ first) (Unknown ∷ now) id u (void, like) here in
          same found.0 u found.1 found.2.kind

-- ---- one type

pub of_kind : (o : Endianness) (part : List ℕ) (p e : ℕ) (u : BtfType) (kind : BtfKind) → IsTypeAt o part p e u → kind_of u ≡ kind
    → (info_kind (info_at o part p) ≡ Some kind) × (u ≡ spelled o part p kind) × (e ≡ end_of o part p kind)
of_kind o part p e u kind is same = (is.kind ∙ ap Some same, is.words ∙ ap (spelled o part p) same, is.ends ∙ ap (end_of o part p) same)

with_kind : (o : Endianness) (part : List ℕ) (p e : ℕ) (u : BtfType) (kind : BtfKind) → info_kind (info_at o part p) ≡ Some kind
    → u ≡ spelled o part p kind → e ≡ end_of o part p kind → IsTypeAt o part p e u
with_kind o part p e u kind known words ends =
    let k : kind_of u ≡ kind = ap kind_of words ∙ kind_of_spelled o part p kind in
    record {
      kind = known ∙ ap Some (sym k);
      words = words ∙ ap (spelled o part p) (sym k);
      ends = ends ∙ ap (end_of o part p) (sym k);
    }

moved : (o : Endianness) (part : List ℕ) (u : BtfType) (p q m n : ℕ) → p ≡ q → m ≡ n → IsTypeAt o part p m u → IsTypeAt o part q n u
moved o part u p q m n from to is = rw (from, to) at is

one_before : (p : ℕ) (ts : List BtfType) (j k : ℕ) (t u : BtfType) → slice_get ts j ≡ Some t → slice_get ts k ≡ Some u → j < k → place p ts j + type_length t ≤ place p ts k
one_before p [] j k t u is there less = cc
one_before p (v ∷ vs) zero zero t u is there less = absurd (omega arith)
one_before p (v ∷ vs) zero (suc k) t u is there less =
    let same : v ≡ t = cc in
    let long : type_length v ≡ type_length t = ap type_length same in
    let after = not_before (p + type_length v) vs k in
    omega arith
one_before p (v ∷ vs) (suc j) zero t u is there less = absurd (omega arith)
one_before p (v ∷ vs) (suc j) (suc k) t u is there less = one_before (p + type_length v) vs j k t u is there (omega arith)

module _ (g : TypeSources) (s : Standins) (first : List BtfType) (ready : AreReady g s first) where
  pub there : (id : ℕ) (t : BtfType) → slice_get g.types.types id ≡ Some t → slice_get (Unknown ∷ first) id ≡ Some t
  there id t is = ap (λ ts. slice_get ts id) (sym ready.all) ∙ is

  -- a type that is not void is one of the first, and stands where it begins
  pub record IsPlaced (id : ℕ) (t : BtfType) : Type 0 where
    pub k : ℕ
    pub index : id ≡ suc k
    pub here : slice_get first k ≡ Some t
    pub at : start_of g.starts id ≡ place 0 first k

  pub is_placed : (id : ℕ) (t : BtfType) → slice_get g.types.types id ≡ Some t → 0 < kind_number (kind_of t) → IsPlaced id t
  unfolding kind_of kind_number
  is_placed zero t is some =
      let void : Some Unknown ≡ Some t = there 0 t is in
      let same : Unknown ≡ t = cc in
      let none : kind_number (kind_of t) ≡ 0 = ap (λ u. kind_number (kind_of u)) (sym same) in
      absurd (omega arith)
  is_placed (suc k) t is some = let here : slice_get first k ≡ Some t = there (suc k) t is in record { k = k; index = refl; here = here; at = ready.placed k t here }

  -- what words do in a type that is like another
  abbrev TurnsType : ℕ → BtfType → (BtfType → BtfType) → List WrittenWord → Type 0
  TurnsType p t f ws = (part : List ℕ) (u : BtfType) → IsLike s.name_offset t u → IsTypeAt g.order part p (p + type_length t) u → p + type_length t ≤ length part
      → IsTypeAt g.order (words_over g.order part ws) p (p + type_length t) (f u) × IsLike s.name_offset t (f u)

  turned : (id : ℕ) (t : BtfType) (f : BtfType → BtfType) (ws : List WrittenWord) → slice_get g.types.types id ≡ Some t → 0 < kind_number (kind_of t)
      → AreBetween (start_of g.starts id) (start_of g.starts id + type_length t) ws → TurnsType (start_of g.starts id) t f ws
      → (part : List ℕ) (now : List BtfType) → Stands g.order s.name_offset first part now
      → (after : List BtfType) × (changed_at id f (Unknown ∷ now) ≡ Unknown ∷ after) × Stands g.order s.name_offset first (words_over g.order part ws) after
  turned id t f ws is some between turns part now stands =
      let n = is_placed id t is some in
      let p = start_of g.starts id in
      let found = like_there s.name_offset first now n.k t stands.like n.here in
      let u = found.0 in
      let q = place 0 now n.k in
      let at : q ≡ p = like_place s.name_offset 0 first now n.k stands.like ∙ sym n.at in
      let long : type_length u ≡ type_length t = like_length s.name_offset t u found.2 in
      let end : q + type_length u ≡ p + type_length t = λ i. at i + long i in
      let old = type_there g.order part 0 now n.k u stands.tiled found.1 in
      let new = turns part u found.2 (moved g.order part u q p (q + type_length u) (p + type_length t) at end old.0) (omega (arith, old.1, end)) in
      let other = words_over g.order part ws in
      let again : type_length (f u) ≡ type_length u = like_length s.name_offset t (f u) new.1 ∙ sym long in (
        changed_at n.k f now,
        ap (λ i. changed_at i f (Unknown ∷ now)) n.index,
        record {
          tiled = type_changed g.order part other 0 now n.k u f stands.tiled found.1 (record {
            long = length_words_over g.order part ws;
            apart = λ r apart. words_apart g.order part q (q + type_length u) ws r
                (between_wider p (p + type_length t) q (q + type_length u) ws (omega (arith, at)) (omega (arith, end)) between) apart;
          }) again (moved g.order other (f u) p q (p + type_length t) (q + type_length u) (sym at) (sym end) new.0);
          like = like_changed s.name_offset first now n.k t u f stands.like n.here found.1 new.1;
        },
      )

  -- types stand in the order of their ids
  in_id_order : (j k : ℕ) (t u : BtfType) → slice_get g.types.types j ≡ Some t → slice_get g.types.types k ≡ Some u → 0 < kind_number (kind_of t) → 0 < kind_number (kind_of u)
      → j < k → start_of g.starts j + type_length t ≤ start_of g.starts k
  in_id_order j k t u is at some other less =
      let a = is_placed j t is some in
      let b = is_placed k u at other in
      omega (arith, a.at, b.at, one_before 0 first a.k b.k t u a.here b.here (omega (arith, a.index, b.index, less)))

  -- words in one type leave the info words of the others
  info_apart : (j k : ℕ) (t u : BtfType) (ws : List WrittenWord) (part : List ℕ) → slice_get g.types.types j ≡ Some t → slice_get g.types.types k ≡ Some u
      → 0 < kind_number (kind_of t) → 0 < kind_number (kind_of u) → AreBetween (start_of g.starts j) (start_of g.starts j + type_length t) ws → (j < k) ⊎ (k < j)
      → word g.order (words_over g.order part ws) (start_of g.starts k + 4) ≡ word g.order part (start_of g.starts k + 4)
  info_apart j k t u ws part is at some other between (inl less) =
      let before = in_id_order j k t u is at some other less in
      words_apart g.order part (start_of g.starts j) (start_of g.starts j + type_length t) ws (start_of g.starts k + 4) between (inr (omega arith))
  info_apart j k t u ws part is at some other between (inr more) =
      let before = in_id_order k j u t at is other some more in
      let long = at_least u in
      words_apart g.order part (start_of g.starts j) (start_of g.starts j + type_length t) ws (start_of g.starts k + 4) between (inl (omega arith))

  -- words in a type that is no FUNC set no linkage
  sets_none : (j : ℕ) (t : BtfType) (ws : List WrittenWord) → slice_get g.types.types j ≡ Some t → 0 < kind_number (kind_of t) → (kind_number (kind_of t) == 12) ≡ false
      → AreBetween (start_of g.starts j) (start_of g.starts j + type_length t) ws → Sets g ws []
  unfolding kind_of kind_number
  sets_none j t ws at some other between part long k name proto is = by_order (cases_order j k)
    where
      is_func : t ≡ Func name proto → ⊥
      is_func same = let no : (12 == 12) ≡ false = sym (ap (λ u. kind_number (kind_of u) == 12) same) ∙ other in cc

      by_order : (j ≡ k) ⊎ ((j < k) ⊎ (k < j)) → info_vlen (word g.order (words_over g.order part ws) (start_of g.starts k + 4)) ≡ info_vlen (word g.order part (start_of g.starts k + 4))
      by_order (inl same) = let both : Some t ≡ Some (Func name proto) = sym at ∙ ap (slice_get g.types.types) same ∙ is in absurd (is_func (cc))
      by_order (inr order) = ap info_vlen (info_apart j k t (Func name proto) ws part at is some (omega arith) between order)

  -- words behind the name and the info word of a type that is no FUNC
  turns_behind : (id : ℕ) (t : BtfType) (c : Change) (ws : List WrittenWord) → slice_get g.types.types id ≡ Some t → 0 < kind_number (kind_of t) → (kind_number (kind_of t) == 12) ≡ false
      → AreBetween (start_of g.starts id + 8) (start_of g.starts id + type_length t) ws
      → ((part : List ℕ) (u : BtfType) → IsLike s.name_offset t u → u ≡ spelled g.order part (start_of g.starts id) (kind_of t) → start_of g.starts id + type_length t ≤ length part
      → word g.order (words_over g.order part ws) (start_of g.starts id) ≡ word g.order part (start_of g.starts id)
      → vlen_at g.order (words_over g.order part ws) (start_of g.starts id) ≡ vlen_at g.order part (start_of g.starts id)
      → (changed u c ≡ spelled g.order (words_over g.order part ws) (start_of g.starts id) (kind_of t)) × IsLike s.name_offset t (changed u c))
      → TurnsOf g s first ws (record { id = id; change = c } ∷ []) []
  turns_behind id t c ws is some other between spells = record {
    turns = turned id t (λ u. changed u c) ws is some whole (λ part u like here within.
        let info : word g.order (words_over g.order part ws) (p + 4) ≡ word g.order part (p + 4) = words_apart g.order part (p + 8) end ws (p + 4) between (inl (omega arith)) in
        let was = of_kind g.order part p end u (kind_of t) here like.kind in
        let made = spells part u like was.1 within (words_apart g.order part (p + 8) end ws p between (inl (omega arith))) (ap info_vlen info) in (
          with_kind g.order (words_over g.order part ws) p end (changed u c) (kind_of t) (ap info_kind info ∙ was.0) made.0
              (was.2 ∙ ap (λ n. p + 12 + 4 * further_words (kind_of t) (info_vlen n)) (sym info)),
          made.1,
        ));
    sets = sets_none id t ws is some other whole;
  }
    where
      p : ℕ
      p = start_of g.starts id

      end : ℕ
      end = p + type_length t

      whole : AreBetween (start_of g.starts id) (start_of g.starts id + type_length t) ws
      whole = between_wider (start_of g.starts id + 8) (start_of g.starts id + type_length t) (start_of g.starts id) (start_of g.starts id + type_length t) ws (omega arith) (omega arith) between

  -- ---- each kind

  pub section_turns : (id n size full : ℕ) (rows own : List DataSecEntry) → slice_get g.types.types id ≡ Some (DataSec n size rows) → length own ≡ length rows
      → full < 2 ^ 32 → AreSmall own → TurnsOf g s first (section_words (start_of g.starts id) full own) (record { id = id; change = Entries full own } ∷ []) []
  unfolding kind_of kind_number count_of type_length further_words spelled changed
  section_turns id n size full rows own is same fits small =
      let p = start_of g.starts id in
      let t = DataSec n size rows in
      let sized = at_word (p + 8) full in
      let others = rows_words (p + 12) own in
      let end = p + 12 + 12 * length own in
      let behind : AreBetween (p + 12) (p + type_length t) others = between_wider (p + 12) end (p + 12) (p + type_length t) others (omega arith) (omega arith) (rows_between (p + 12) own) in
      let from_eight : AreBetween (p + 8) (p + type_length t) others = between_wider (p + 12) end (p + 8) (p + type_length t) others (omega arith) (omega arith) (rows_between (p + 12) own) in
      turns_behind id t (Entries full own) (sized ∷ others) is (omega arith) refl (omega arith, omega arith, from_eight) (λ part u like words within name count.
      let other = words_over g.order part (sized ∷ others) in
      let a : word g.order other (p + 8) ≡ full = first_stands g.order part sized others (p + 12) (p + type_length t) (omega arith) fits behind (omega arith) in
      let once = length_words_over g.order part (sized ∷ []) in
      let stand : items_at (entry_at g.order other) 12 (p + 12) (length own) ≡ own = rows_stand g.order (word_over g.order part sized) (p + 12) own small (omega arith) in
      let before : vlen_at g.order part p ≡ length own =
      sym (items_length (entry_at g.order part) 12 (p + 12) (vlen_at g.order part p)) ∙ ap count_of (sym words) ∙ like.count ∙ sym same in
      let all : items_at (entry_at g.order other) 12 (p + 12) (vlen_at g.order other p) ≡ own = ap (items_at (entry_at g.order other) 12 (p + 12)) (count ∙ before) ∙ stand in (
        ap (λ v. changed v (Entries full own)) words ∙ (λ i. DataSec (sym name i) (sym a i) (sym all i)),
        subst (λ (v : BtfType). IsLike s.name_offset t (changed v (Entries full own))) (sym words) (record { kind = refl; count = same; params = tt }),
      ))

  pub variable_turns : (id n type linkage : ℕ) → slice_get g.types.types id ≡ Some (Var n type linkage)
      → TurnsOf g s first (at_word (start_of g.starts id + 8) s.int_id ∷ at_word (start_of g.starts id + 12) 1 ∷ []) (record { id = id; change = TypeAndLinkage s.int_id 1 } ∷ []) []
  unfolding kind_of kind_number count_of type_length further_words spelled changed
  variable_turns id n type linkage is =
      let p = start_of g.starts id in
      let one = at_word (p + 8) s.int_id in
      let two = at_word (p + 12) 1 in
      turns_behind id (Var n type linkage) (TypeAndLinkage s.int_id 1) (one ∷ two ∷ []) is (omega arith) refl (omega arith, omega arith, (omega arith, omega arith, tt)) (λ part u like words within name count.
      let other = words_over g.order part (one ∷ two ∷ []) in
      let a : word g.order other (p + 8) ≡ s.int_id = first_stands g.order part one (two ∷ []) (p + 12) (p + 16) (omega arith) ready.int (omega arith, omega arith, tt) (omega arith) in
      let once = length_words_over g.order part (one ∷ []) in
      let b : word g.order other (p + 12) ≡ 1 = word_here g.order (word_over g.order part one) two (omega arith) (omega arith) in (
        ap (λ v. changed v (TypeAndLinkage s.int_id 1)) words ∙ (λ i. Var (sym name i) (sym a i) (sym b i)),
        subst (λ (v : BtfType). IsLike s.name_offset (Var n type linkage) (changed v (TypeAndLinkage s.int_id 1))) (sym words) (record { kind = refl; count = refl; params = tt }),
      ))

  pub linkage_turns : (id n type before linkage : ℕ) → slice_get g.types.types id ≡ Some (Var n type before) → linkage < 2 ^ 32
      → TurnsOf g s first (at_word (start_of g.starts id + 12) linkage ∷ []) (record { id = id; change = Linkage linkage } ∷ []) []
  unfolding kind_of kind_number count_of type_length further_words spelled changed
  linkage_turns id n type before linkage is small =
      let p = start_of g.starts id in
      let only = at_word (p + 12) linkage in
      turns_behind id (Var n type before) (Linkage linkage) (only ∷ []) is (omega arith) refl (omega arith, omega arith, tt) (λ part u like words within name count.
      let other = words_over g.order part (only ∷ []) in
      let a : word g.order other (p + 8) ≡ word g.order part (p + 8) = words_apart g.order part (p + 12) (p + 16) (only ∷ []) (p + 8) (omega arith, omega arith, tt) (inl (omega arith)) in
      let b : word g.order other (p + 12) ≡ linkage = word_here g.order part only (omega arith) small in (
        ap (λ v. changed v (Linkage linkage)) words ∙ (λ i. Var (sym name i) (sym a i) (sym b i)),
        subst (λ (v : BtfType). IsLike s.name_offset (Var n type before) (changed v (Linkage linkage))) (sym words) (record { kind = refl; count = refl; params = tt }),
      ))

  pub params_turns : (id n type : ℕ) (params : List BtfParam) → slice_get g.types.types id ≡ Some (FuncProto n type params)
      → TurnsOf g s first (params_words s.name_offset (start_of g.starts id + 12) params) (record { id = id; change = ParamNames s.name_offset } ∷ []) []
  unfolding kind_of kind_number count_of type_length further_words spelled changed
  params_turns id n type params is =
      let p = start_of g.starts id in
      let t = FuncProto n type params in
      let ws = params_words s.name_offset (p + 12) params in
      let end = p + 12 + 8 * length params in
      let between = params_between s.name_offset (p + 12) params in
      turns_behind id t (ParamNames s.name_offset) ws is (omega arith) refl (between_wider (p + 12) end (p + 8) (p + type_length t) ws (omega arith) (omega arith) between) (λ part u like words within name count.
      let other = words_over g.order part ws in
      let a : word g.order other (p + 8) ≡ word g.order part (p + 8) = words_apart g.order part (p + 12) end ws (p + 8) between (inl (omega arith)) in
      let before : vlen_at g.order part p ≡ length params = sym (items_length (param_at g.order part) 8 (p + 12) (vlen_at g.order part p)) ∙ ap count_of (sym words) ∙ like.count in
      let had : params_of u ≡ items_at (param_at g.order part) 8 (p + 12) (vlen_at g.order part p) = ap params_of words in
      let was : items_at (param_at g.order part) 8 (p + 12) (length params) ≡ params_of u = ap (items_at (param_at g.order part) 8 (p + 12)) (sym before) ∙ sym had in
      let stand = params_stand g.order part s.name_offset (p + 12) params (params_of u) was like.params ready.name (omega arith) in
      let all : items_at (param_at g.order other) 8 (p + 12) (vlen_at g.order other p) ≡ map (named_param s.name_offset) (items_at (param_at g.order part) 8 (p + 12) (vlen_at g.order part p)) =
      ap (items_at (param_at g.order other) 8 (p + 12)) (count ∙ before) ∙ stand ∙ ap (map (named_param s.name_offset)) had in (
        ap (λ v. changed v (ParamNames s.name_offset)) words ∙ (λ i. FuncProto (sym name i) (sym a i) (sym all i)),
        subst (λ (v : BtfType). IsLike s.name_offset t (changed v (ParamNames s.name_offset))) (sym words) (record {
          kind = refl;
          count = length-map _ (named_param s.name_offset) ∙ ap count_of (sym words) ∙ like.count;
          params = named_like s.name_offset params _ (subst (λ (qs : List BtfParam). ParamsLike s.name_offset params qs) had like.params);
        }),
      ))

  pub function_turns : (id n proto info : ℕ) → slice_get g.types.types id ≡ Some (Func n proto) → info < 2 ^ 32 → info_kind info ≡ Some kinds.Func
      → TurnsOf g s first (at_word (start_of g.starts id + 4) info ∷ []) [] (record { id = id; linkage = info_vlen info } ∷ [])
  unfolding kind_of kind_number count_of type_length further_words spelled
  function_turns id n proto info is small known =
      let p = start_of g.starts id in
      let t = Func n proto in
      let only = at_word (p + 4) info in
      let turns = turned id t (λ u. u) (only ∷ []) is (omega arith) (omega arith, omega arith, tt) (λ part u like here within.
      let other = words_over g.order part (only ∷ []) in
      let was = of_kind g.order part p (p + 12) u kinds.Func here like.kind in
      let name : word g.order other p ≡ word g.order part p = words_apart g.order part (p + 4) (p + 8) (only ∷ []) p (omega arith, omega arith, tt) (inl (omega arith)) in
      let type : word g.order other (p + 8) ≡ word g.order part (p + 8) = words_apart g.order part (p + 4) (p + 8) (only ∷ []) (p + 8) (omega arith, omega arith, tt) (inr (omega arith)) in
      let there : word g.order other (p + 4) ≡ info = word_here g.order part only (omega arith) small in
      (with_kind g.order other p (p + 12) u kinds.Func (ap info_kind there ∙ known) (was.1 ∙ (λ i. Func (sym name i) (sym type i))) (omega arith), like)) in
      record {
        turns = λ part now stands.
            let found = turns part now stands in
            (found.0, sym (unchanged id (λ u. u) (Unknown ∷ now) (λ u here. refl)) ∙ found.1, found.2);
        sets = λ part long k name other there. by_order part long k name other there (cases_order id k);
      }
    where
      by_order : (part : List ℕ) → length part ≡ length g.part → (k name other : ℕ) → slice_get g.types.types k ≡ Some (Func name other) → (id ≡ k) ⊎ ((id < k) ⊎ (k < id))
          → info_vlen (word g.order (words_over g.order part (at_word (start_of g.starts id + 4) info ∷ [])) (start_of g.starts k + 4))
          ≡ cond (id == k) (info_vlen info) (info_vlen (word g.order part (start_of g.starts k + 4)))
      by_order part long k name other at (inl same) =
          let test : (id == k) ≡ true = grind (arith, nat_tests) in
          let there : start_of g.starts k + 4 ≡ start_of g.starts id + 4 = ap (λ i. start_of g.starts i + 4) (sym same) in
          let placed = is_placed id (Func n proto) is (omega arith) in
          let within : start_of g.starts id + 4 + 4 ≤ length part = omega (arith, placed.at, ready.inside placed.k (Func n proto) placed.here) in
          rw test (ap info_vlen (ap (word g.order (words_over g.order part (at_word (start_of g.starts id + 4) info ∷ []))) there ∙ word_here g.order part (at_word (start_of g.starts id + 4) info) within small))
      by_order part long k name other at (inr order) =
          let different : (id == k) ≡ false = differ order in
          rw different (ap info_vlen (info_apart id k (Func n proto) (Func name other) (at_word (start_of g.starts id + 4) info ∷ []) part is at (omega arith) (omega arith) (omega arith, omega arith, tt) order))
        where
          differ : (id < k) ⊎ (k < id) → (id == k) ≡ false
          differ (inl less) = grind (arith, nat_tests)
          differ (inr more) = grind (arith, nat_tests)
