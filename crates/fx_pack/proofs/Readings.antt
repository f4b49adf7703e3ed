-- Reading with each element put where it belongs is the reading of the parts.
use Rattle.std.proofs.Common.{◌≡◌, refl, sym, ap, ◌∙◌, subst, ℕ, ℤ, zero, suc, ◌+◌, ◌-◌, ◌<◌, ◌≤◌, Bool, true, false, cond, ◌&&◌, ◌==◌, List, [], ◌∷◌, ◌++◌, length, map, Option, Some, None, append_assoc, arith}
use Rattle.std.specs.Prelude.{nat_lt, nat_le}
use Rattle.std.specs.Int.{w16, w64, cast_signed}
use Rattle.std.specs.List.{flat_map, enumerate_from}
use Rattle.std.specs.Ordering.{nat_cmp}
use Rattle.std.specs.Cmp.{nat_cmp_total}
use Rattle.std.specs.declared.cmp.Ordering.TheVariants.{Less, Equal, Greater}
use Rattle.std.specs.FinMap.{put, insert, empty, from_sorted}
use Rattle.std.proofs.lemmas.Bool.{le-ltb, ne_eqb}
use Rattle.std.proofs.lemmas.List.{append-nil, length-append}
use Rattle.fx_base.specs.Keys.{by_number, by_number_total}
use Rattle.fx_base.specs.declared.names.MemberId.{MemberId}
use Rattle.fx_base.specs.declared.snapshot.Snapshot.{Snapshot}
use Rattle.fx_base.specs.declared.sparse.Sparse.{Sparse}
use Rattle.fx_base.proofs.Maps.{none_is_empty, put_is_insert}
use Rattle.fx_store.specs.Packed.{Run, Section, ◌>>=◌, only_if, byte_in, number_in, run_end, indexed, meaning_of, snapshot_of, elements_in, run_in, runs_in, section_in, sections_in, text_in, snapshot_in, text_bytes}
use Rattle.fx_store.proofs.Numbers.{IsBytes, bind_some, some_is}
use Rattle.fx_store.proofs.Orders.{RunsFrom, SectionsFrom}
use Rattle.fx_store.proofs.Texts.{text_takes}
use Rattle.fx_store.proofs.Meanings.{KeysFrom, sorted_keys, keys_of_runs, MembersFrom, sorted_members, members_of_sections}
use Rattle.fx_pack.specs.Reading.{elements_put, may_stand, run_put, runs_put, member_put, members_put, head_in, snapshot_put}

-- elements put in their order
inserting : List (ℕ × ℤ) → Sparse → Sparse
inserting [] m = m
inserting (e ∷ es) m = inserting es (insert m e.0 e.1)

inserting_joined : (a b : List (ℕ × ℤ)) (m : Sparse) → inserting (a ++ b) m ≡ inserting b (inserting a m)
unfolding inserting
inserting_joined [] b m = refl
inserting_joined (e ∷ a) b m = inserting_joined a b (insert m e.0 e.1)

-- what each step makes of what it read

abbrev Elements : Type 0
Elements = List ℤ × List ℕ

abbrev RunAnd : Type 0
RunAnd = Run × List ℕ

abbrev RunsAnd : Type 0
RunsAnd = List Run × List ℕ

abbrev SectionAnd : Type 0
SectionAnd = Section × List ℕ

abbrev SectionsAnd : Type 0
SectionsAnd = List Section × List ℕ

abbrev MemberAnd : Type 0
MemberAnd = ℕ × Sparse × List ℕ

abbrev SparseAnd : Type 0
SparseAnd = Sparse × List ℕ

abbrev as_element : ℕ × List ℕ → Option (ℤ × List ℕ)
as_element word = Some (cast_signed w64 word.0, word.1)

abbrev with_element : ℤ → Elements → Option Elements
with_element x r = Some (x ∷ r.0, r.1)

abbrev put_elements : ℕ → Sparse → Elements → Option SparseAnd
put_elements index m r = Some (inserting (enumerate_from index r.0) m, r.1)

abbrev with_next : ℕ → SparseAnd → Option (Sparse × (ℕ × List ℕ))
with_next n p = Some (p.0, (n, p.1))

abbrev as_run : ℕ → Elements → Option RunAnd
as_run start r = Some (record { start = start; elements = r.0 }, r.1)

abbrev put_run : Sparse → RunAnd → Option (Sparse × (ℕ × List ℕ))
put_run m r = Some (inserting (indexed r.0) m, (run_end r.0 + 1, r.1))

abbrev with_run : Run → RunsAnd → Option RunsAnd
with_run run r = Some (run ∷ r.0, r.1)

abbrev put_runs : Sparse → RunsAnd → Option SparseAnd
put_runs m r = Some (inserting (flat_map indexed r.0) m, r.1)

abbrev as_member : ℕ → SparseAnd → Option MemberAnd
as_member member p = Some (member, p.0, p.1)

abbrev as_section : ℕ → RunsAnd → Option SectionAnd
as_section member r = Some (record { member = member; runs = r.0 }, r.1)

-- what a member has, each element put in its order
put_together : Section → Sparse
put_together section = inserting (flat_map indexed section.runs) empty

abbrev put_member : SectionAnd → Option MemberAnd
put_member r = Some (r.0.member, put_together r.0, r.1)

-- members put in their order
inserting_members : List Section → Snapshot → Snapshot
inserting_members [] s = s
inserting_members (section ∷ sections) s = inserting_members sections (insert s (record { 0 = section.member }) (put_together section))

abbrev with_section : Section → SectionsAnd → Option SectionsAnd
with_section section r = Some (section ∷ r.0, r.1)

abbrev put_sections : Snapshot → SectionsAnd → Option (Snapshot × List ℕ)
put_sections s r = Some (inserting_members r.0 s, r.1)

abbrev as_answer : List ℕ → SectionsAnd → Option (Snapshot × ℕ)
as_answer bytes r = Some (snapshot_of r.0, length bytes - length r.1)

elements_put_is : (count index : ℕ) (bytes : List ℕ) (m : Sparse) → elements_put count index bytes m ≡ (elements_in count bytes >>= put_elements index m)
unfolding elements_put elements_in inserting
elements_put_is zero index bytes m = refl
elements_put_is (suc count) index bytes m = first (number_in w64 bytes) (λ after x. elements_put_is count (index + 1) after (insert m index x))
  where
    then : (x : ℤ) (o : Option Elements)
        → (o >>= put_elements (index + 1) (insert m index x))
        ≡ ((o >>= with_element x) >>= put_elements index m)
    then x None = refl
    then x (Some r) = refl

    first : (o : Option (ℕ × List ℕ))
        → ((after : List ℕ) (x : ℤ) → elements_put count (index + 1) after (insert m index x) ≡ (elements_in count after >>= put_elements (index + 1) (insert m index x)))
        → ((o >>= as_element) >>= λ (e : ℤ × List ℕ). elements_put count (index + 1) e.1 (insert m index e.0))
        ≡ ((o >>= λ word. elements_in count word.1 >>= with_element (cast_signed w64 word.0)) >>= put_elements index m)
    first None more = refl
    first (Some word) more = more word.1 (cast_signed w64 word.0) ∙ then (cast_signed w64 word.0) (elements_in count word.1)

elements_count : (count : ℕ) (bytes : List ℕ) (r : Elements) → elements_in count bytes ≡ Some r → length r.0 ≡ count
unfolding elements_in
elements_count zero bytes r e = ap (λ (x : Elements). length x.0) (sym (some_is ([], bytes) r e))
elements_count (suc count) bytes r e =
    let a = bind_some (number_in w64 bytes) (λ word. elements_in count word.1 >>= with_element (cast_signed w64 word.0)) r e in
    let b = bind_some (elements_in count a.0.1) (with_element (cast_signed w64 a.0.0)) r a.2 in
    ap (λ (x : Elements). length x.0) (sym (some_is (cast_signed w64 a.0.0 ∷ b.0.0, b.0.1) r b.2)) ∙ ap suc (elements_count count a.0.1 b.0 b.1)

run_put_is : (least : ℕ) (bytes : List ℕ) (m : Sparse) → run_put least bytes m ≡ (run_in least bytes >>= put_run m)
unfolding run_put run_in
run_put_is least bytes m = one (number_in w16 bytes)
  where
    four : (start count : ℕ) (after : List ℕ) (o : Option Elements) → elements_in count after ≡ o
        → ((o >>= put_elements start m) >>= with_next (start + count + 1))
        ≡ ((o >>= as_run start) >>= put_run m)
    four start count after None e = refl
    four start count after (Some r) e = ap (λ n. Some (inserting (enumerate_from start r.0) m, (start + n + 1, r.1))) (sym (elements_count count after r e))

    three : (start count : ℕ) (after : List ℕ) (b : Bool)
        → (only_if b (elements_put count start after m) >>= with_next (start + count + 1))
        ≡ ((only_if b (elements_in count after) >>= as_run start) >>= put_run m)
    three start count after true =
        ap (λ (o : Option (Sparse × List ℕ)). o >>= with_next (start + count + 1)) (elements_put_is count start after m) ∙ four start count after (elements_in count after) refl
    three start count after false = refl

    two : (start : ℕ) (o : Option (ℕ × List ℕ))
        → (o >>= λ count. only_if (may_stand least start count.0) (elements_put count.0 start count.1 m) >>= with_next (start + count.0 + 1))
        ≡ ((o >>= λ count. only_if (may_stand least start count.0) (elements_in count.0 count.1) >>= as_run start) >>= put_run m)
    two start None = refl
    two start (Some count) = three start count.0 count.1 (may_stand least start count.0)

    one : (o : Option (ℕ × List ℕ))
        → (o >>= λ start. number_in w16 start.1 >>= λ count. only_if (may_stand least start.0 count.0) (elements_put count.0 start.0 count.1 m) >>= with_next (start.0 + count.0 + 1))
        ≡ ((o >>= λ start. number_in w16 start.1 >>= λ count. only_if (may_stand least start.0 count.0) (elements_in count.0 count.1) >>= as_run start.0) >>= put_run m)
    one None = refl
    one (Some start) = two start.0 (number_in w16 start.1)

runs_put_is : (count least : ℕ) (bytes : List ℕ) (m : Sparse) → runs_put count least bytes m ≡ (runs_in count least bytes >>= put_runs m)
unfolding runs_put runs_in inserting
runs_put_is zero least bytes m = refl
runs_put_is (suc count) least bytes m =
    ap (λ (o : Option (Sparse × (ℕ × List ℕ))). o >>= λ run. runs_put count run.1.0 run.1.1 run.0) (run_put_is least bytes m)
    ∙ first (run_in least bytes) (λ n after new. runs_put_is count n after new)
  where
    then : (run : Run) (o : Option RunsAnd)
        → (o >>= put_runs (inserting (indexed run) m))
        ≡ ((o >>= with_run run) >>= put_runs m)
    then run None = refl
    then run (Some r) = ap (λ new. Some (new, r.1)) (sym (inserting_joined (indexed run) (flat_map indexed r.0) m))

    first : (o : Option RunAnd)
        → ((n : ℕ) (after : List ℕ) (new : Sparse) → runs_put count n after new ≡ (runs_in count n after >>= put_runs new))
        → ((o >>= put_run m) >>= λ (run : Sparse × (ℕ × List ℕ)). runs_put count run.1.0 run.1.1 run.0)
        ≡ ((o >>= λ (run : RunAnd). runs_in count (run_end run.0 + 1) run.1 >>= with_run run.0) >>= put_runs m)
    first None more = refl
    first (Some run) more = more (run_end run.0 + 1) run.1 (inserting (indexed run.0) m) ∙ then run.0 (runs_in count (run_end run.0 + 1) run.1)

member_put_is : (least : ℕ) (bytes : List ℕ) → member_put least bytes ≡ (section_in least bytes >>= put_member)
unfolding member_put section_in put_together
member_put_is least bytes = one (byte_in bytes)
  where
    four : (member : ℕ) (o : Option RunsAnd)
        → ((o >>= put_runs empty) >>= as_member member)
        ≡ ((o >>= as_section member) >>= put_member)
    four member None = refl
    four member (Some r) = refl

    three : (member count : ℕ) (after : List ℕ) (b : Bool)
        → (only_if b (runs_put count 0 after empty) >>= as_member member)
        ≡ ((only_if b (runs_in count 0 after) >>= as_section member) >>= put_member)
    three member count after true =
        ap (λ (o : Option (Sparse × List ℕ)). o >>= as_member member) (runs_put_is count 0 after empty) ∙ four member (runs_in count 0 after)
    three member count after false = refl

    two : (member : ℕ) (o : Option (ℕ × List ℕ))
        → (o >>= λ count. only_if (nat_le least member && nat_lt member 8) (runs_put count.0 0 count.1 empty) >>= as_member member)
        ≡ ((o >>= λ count. only_if (nat_le least member && nat_lt member 8) (runs_in count.0 0 count.1) >>= as_section member) >>= put_member)
    two member None = refl
    two member (Some count) = three member count.0 count.1 (nat_le least member && nat_lt member 8)

    one : (o : Option (ℕ × List ℕ))
        → (o >>= λ member. number_in w16 member.1 >>= λ count. only_if (nat_le least member.0 && nat_lt member.0 8) (runs_put count.0 0 count.1 empty) >>= as_member member.0)
        ≡ ((o >>= λ member. number_in w16 member.1 >>= λ count. only_if (nat_le least member.0 && nat_lt member.0 8) (runs_in count.0 0 count.1) >>= as_section member.0) >>= put_member)
    one None = refl
    one (Some member) = two member.0 (number_in w16 member.1)

members_put_is : (count least : ℕ) (bytes : List ℕ) (s : Snapshot) → members_put count least bytes s ≡ (sections_in count least bytes >>= put_sections s)
unfolding members_put sections_in inserting_members
members_put_is zero least bytes s = refl
members_put_is (suc count) least bytes s =
    ap (λ (o : Option MemberAnd). o >>= λ m. members_put count (m.0 + 1) m.2 (insert s (record { 0 = m.0 }) m.1)) (member_put_is least bytes)
    ∙ first (section_in least bytes) (λ n after new. members_put_is count n after new)
  where
    then : (section : Section) (o : Option SectionsAnd)
        → (o >>= put_sections (insert s (record { 0 = section.member }) (put_together section)))
        ≡ ((o >>= with_section section) >>= put_sections s)
    then section None = refl
    then section (Some r) = refl

    first : (o : Option SectionAnd)
        → ((n : ℕ) (after : List ℕ) (new : Snapshot) → members_put count n after new ≡ (sections_in count n after >>= put_sections new))
        → ((o >>= put_member) >>= λ (m : MemberAnd). members_put count (m.0 + 1) m.2 (insert s (record { 0 = m.0 }) m.1))
        ≡ ((o >>= λ (section : SectionAnd). sections_in count (section.0.member + 1) section.1 >>= with_section section.0) >>= put_sections s)
    first None more = refl
    first (Some section) more =
        more (section.0.member + 1) section.1 (insert s (record { 0 = section.0.member }) (put_together section.0)) ∙ then section.0 (sections_in count (section.0.member + 1) section.1)

snapshot_put_is : (bytes : List ℕ) → snapshot_put bytes ≡ (text_in bytes >>= put_sections empty)
unfolding snapshot_put text_in head_in
snapshot_put_is bytes = one (byte_in bytes)
  where
    marked : ℕ → ℕ → ℕ → ℕ → Bool
    marked f s v c = f == 70 && (s == 88 && (v == 1 && nat_le c 8))

    five : (count : ℕ × List ℕ) (b : Bool)
        → (only_if b (Some count) >>= λ (c : ℕ × List ℕ). members_put c.0 0 c.1 empty)
        ≡ (only_if b (sections_in count.0 0 count.1) >>= put_sections empty)
    five count true = members_put_is count.0 0 count.1 empty
    five count false = refl

    four : (f s v : ℕ) (o : Option (ℕ × List ℕ))
        → ((o >>= λ count. only_if (f == 70 && (s == 88 && (v == 1 && nat_le count.0 8))) (Some count)) >>= λ (c : ℕ × List ℕ). members_put c.0 0 c.1 empty)
        ≡ ((o >>= λ count. only_if (f == 70 && (s == 88 && (v == 1 && nat_le count.0 8))) (sections_in count.0 0 count.1)) >>= put_sections empty)
    four f s v None = refl
    four f s v (Some count) = five count (f == 70 && (s == 88 && (v == 1 && nat_le count.0 8)))

    three : (f s : ℕ) (o : Option (ℕ × List ℕ))
        → ((o >>= λ version. byte_in version.1 >>= λ count. only_if (f == 70 && (s == 88 && (version.0 == 1 && nat_le count.0 8))) (Some count)) >>= λ (c : ℕ × List ℕ). members_put c.0 0 c.1 empty)
        ≡ ((o >>= λ version. byte_in version.1 >>= λ count. only_if (f == 70 && (s == 88 && (version.0 == 1 && nat_le count.0 8))) (sections_in count.0 0 count.1)) >>= put_sections empty)
    three f s None = refl
    three f s (Some version) = four f s version.0 (byte_in version.1)

    two : (f : ℕ) (o : Option (ℕ × List ℕ))
        → ((o >>= λ second. byte_in second.1 >>= λ version. byte_in version.1 >>= λ count. only_if (f == 70 && (second.0 == 88 && (version.0 == 1 && nat_le count.0 8))) (Some count)) >>= λ (c : ℕ × List ℕ). members_put c.0 0 c.1 empty)
        ≡ ((o >>= λ second. byte_in second.1 >>= λ version. byte_in version.1 >>= λ count. only_if (f == 70 && (second.0 == 88 && (version.0 == 1 && nat_le count.0 8))) (sections_in count.0 0 count.1)) >>= put_sections empty)
    two f None = refl
    two f (Some second) = three f second.0 (byte_in second.1)

    one : (o : Option (ℕ × List ℕ))
        → ((o >>= λ first. byte_in first.1 >>= λ second. byte_in second.1 >>= λ version. byte_in version.1 >>= λ count. only_if (first.0 == 70 && (second.0 == 88 && (version.0 == 1 && nat_le count.0 8))) (Some count)) >>= λ (c : ℕ × List ℕ). members_put c.0 0 c.1 empty)
        ≡ ((o >>= λ first. byte_in first.1 >>= λ second. byte_in second.1 >>= λ version. byte_in version.1 >>= λ count. only_if (first.0 == 70 && (second.0 == 88 && (version.0 == 1 && nat_le count.0 8))) (sections_in count.0 0 count.1)) >>= put_sections empty)
    one None = refl
    one (Some first) = two first.0 (byte_in first.1)

-- ---- what is put behind all others is put at the end

greater : (k e : ℕ) → e < k → nat_cmp k e ≡ Greater
greater k e lt = (λ i. cond (le-ltb k e (omega arith) i) Less (cond (ne_eqb k e (λ same. omega (arith, same, lt)) i) Equal Greater))

put_last : (least k : ℕ) (v : ℤ) (ds es : List (ℕ × ℤ)) → KeysFrom least (ds ++ (k, v) ∷ es) → put nat_cmp k v ds ≡ ds ++ (k, v) ∷ []
put_last least k v [] es from = refl
put_last least k v (d ∷ ds) es from =
    let le = above (d.0 + 1) ds from.1 in
    let lt : d.0 < k = omega (arith, le) in
    rw (greater k d.0 lt) (ap (λ rest. d ∷ rest) (put_last (d.0 + 1) k v ds es from.1))
  where
    above : (low : ℕ) (xs : List (ℕ × ℤ)) → KeysFrom low (xs ++ (k, v) ∷ es) → low ≤ k
    above low [] h = h.0
    above low (x ∷ xs) h = let more = above (x.0 + 1) xs h.1 in omega (arith, more, h.0)

inserting_is : (least : ℕ) (ds es : List (ℕ × ℤ)) → KeysFrom least (ds ++ es) → inserting es (from_sorted ds) ≡ from_sorted (ds ++ es)
unfolding inserting
inserting_is least ds [] from = ap from_sorted (sym (append-nil ds))
inserting_is least ds (e ∷ es) from =
    let joined : (ds ++ e ∷ []) ++ es ≡ ds ++ e ∷ es = append_assoc ds (e ∷ []) es in
    let kept : KeysFrom least ds = front least ds from in
    let put_it : insert (from_sorted ds) e.0 e.1 ≡ from_sorted (ds ++ e ∷ []) =
    sym (put_is_insert nat_cmp nat_cmp_total ds e.0 e.1 (sorted_keys least ds kept)) ∙ ap from_sorted (put_last least e.0 e.1 ds es from) in
    ap (inserting es) put_it ∙ inserting_is least (ds ++ e ∷ []) es (subst (KeysFrom least) (sym joined) from) ∙ ap from_sorted joined
  where
    front : (low : ℕ) (xs : List (ℕ × ℤ)) → KeysFrom low (xs ++ e ∷ es) → KeysFrom low xs
    front low [] h = tt
    front low (x ∷ xs) h = (h.0, front (x.0 + 1) xs h.1)

put_together_is : (section : Section) → RunsFrom 0 section.runs → put_together section ≡ (meaning_of section).1
unfolding put_together
put_together_is section from =
    ap (inserting (flat_map indexed section.runs)) (sym (none_is_empty nat_cmp)) ∙ inserting_is 0 [] (flat_map indexed section.runs) (keys_of_runs 0 section.runs from)

put_last_member : (least : ℕ) (k : MemberId) (v : Sparse) (ds es : List (MemberId × Sparse)) → MembersFrom least (ds ++ (k, v) ∷ es) → put by_number k v ds ≡ ds ++ (k, v) ∷ []
put_last_member least k v [] es from = refl
put_last_member least k v (d ∷ ds) es from =
    let le = above (d.0.0 + 1) ds from.1 in
    let lt : d.0.0 < k.0 = omega (arith, le) in
    rw (greater k.0 d.0.0 lt) (ap (λ rest. d ∷ rest) (put_last_member (d.0.0 + 1) k v ds es from.1))
  where
    above : (low : ℕ) (xs : List (MemberId × Sparse)) → MembersFrom low (xs ++ (k, v) ∷ es) → low ≤ k.0
    above low [] h = h.0
    above low (x ∷ xs) h = let more = above (x.0.0 + 1) xs h.1 in omega (arith, more, h.0)

inserting_members_is : (least : ℕ) (ds : List (MemberId × Sparse)) (low : ℕ) (sections : List Section) → SectionsFrom low sections → MembersFrom least (ds ++ map meaning_of sections)
    → inserting_members sections (from_sorted ds) ≡ from_sorted (ds ++ map meaning_of sections)
unfolding inserting_members
inserting_members_is least ds low [] good from = ap from_sorted (sym (append-nil ds))
inserting_members_is least ds low (section ∷ sections) good from =
    let e : MemberId × Sparse = meaning_of section in
    let es : List (MemberId × Sparse) = map meaning_of sections in
    let joined : (ds ++ e ∷ []) ++ es ≡ ds ++ e ∷ es = append_assoc ds (e ∷ []) es in
    let kept : MembersFrom least ds = front least ds from in
    let put_it : insert (from_sorted ds) e.0 (put_together section) ≡ from_sorted (ds ++ e ∷ []) =
    ap (insert (from_sorted ds) e.0) (put_together_is section good.1.runs)
    ∙ sym (put_is_insert by_number by_number_total ds e.0 e.1 (sorted_members least ds kept)) ∙ ap from_sorted (put_last_member least e.0 e.1 ds es from) in
    ap (inserting_members sections) put_it ∙ inserting_members_is least (ds ++ e ∷ []) (section.member + 1) sections good.2 (subst (MembersFrom least) (sym joined) from) ∙ ap from_sorted joined
  where
    front : (low : ℕ) (xs : List (MemberId × Sparse)) → MembersFrom low (xs ++ meaning_of section ∷ map meaning_of sections) → MembersFrom low xs
    front low [] h = tt
    front low (x ∷ xs) h = (h.0, front (x.0.0 + 1) xs h.1)

-- ---- what is read is what reading gives

pub reads : (bytes : List ℕ) (s : Snapshot) (rest : List ℕ) → IsBytes bytes → snapshot_put bytes ≡ Some (s, rest) → (length rest ≤ length bytes) × (snapshot_in bytes ≡ Some (s, length bytes - length rest))
reads bytes s rest fits e =
    let a = bind_some (text_in bytes) (put_sections empty) (s, rest) (sym (snapshot_put_is bytes) ∙ e) in
    let t = text_takes bytes a.0.0 a.0.1 fits a.1 in
    let is = some_is (inserting_members a.0.0 empty, a.0.1) (s, rest) a.2 in
    let made : inserting_members a.0.0 empty ≡ snapshot_of a.0.0 =
    ap (inserting_members a.0.0) (sym (none_is_empty by_number)) ∙ inserting_members_is 0 [] 0 a.0.0 t.from (members_of_sections 0 a.0.0 t.from) in
    let snapshot : snapshot_of a.0.0 ≡ s = sym made ∙ ap (λ (r : Snapshot × List ℕ). r.0) is in
    let left : a.0.1 ≡ rest = ap (λ (r : Snapshot × List ℕ). r.1) is in
    let len : length bytes ≡ length (text_bytes a.0.0) + length a.0.1 = ap length t.taken.parts ∙ length-append (text_bytes a.0.0) a.0.1 in
    let same : length a.0.1 ≡ length rest = ap length left in (
      omega (arith, len, same),
      ap (λ (o : Option SectionsAnd). o >>= as_answer bytes) a.1 ∙ (λ i. Some (snapshot i, length bytes - same i)),
    )

pub reads_none : (bytes : List ℕ) → snapshot_put bytes ≡ None → snapshot_in bytes ≡ None
reads_none bytes e = go (text_in bytes) refl
  where
    go : (o : Option SectionsAnd) → text_in bytes ≡ o → snapshot_in bytes ≡ None
    go None is = ap (λ (p : Option SectionsAnd). p >>= as_answer bytes) is
    go (Some r) is =
        absurd (let clash : None ≡ Some (inserting_members r.0 empty, r.1) = sym e ∙ snapshot_put_is bytes ∙ ap (λ (p : Option SectionsAnd). p >>= put_sections empty) is in cc)
