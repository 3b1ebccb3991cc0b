-- The paper's sums with fewer divisions. ceil(n / d) - 1 is the quotient of n - 1 by d, and (n mod d or d if 0) - 1 its rest: so one division gives P, and one
-- both counts. Packets that fit in one burst, and a length that is no longer than the max packet size, need less. Assumes nothing.
use Prim.Native.Nat.{ℕ, ◌+◌, ◌-◌, ◌*◌, ◌/◌, ◌%◌, ◌<◌, ◌≤◌, min}
use mathlib.Core.Logic.{⊎_elim}
use mathlib.Core.Path.{◌≡◌, refl, ◌∙◌}
use native.Mathlib.Nat.{div-add-mod', eq-zero-or-pos, mod-lt, add-mul, one-mul, zero-mul, zero-mod, zero-div, div-eq_of_lt-le, div-eq_of_lt, mod-eq_of_lt}
use native.Mathlib.Omega.{arith}
use borrow.Author.Tests.{eq-eqb, ne_eqb}
use Rattle.bursts.specs.Bursts.{ceiling, packets_of, last_burst, bursts_of}

module _ (n d : ℕ) (sized : 0 < d) where
  -- n is all blocks but the last, which hold d each, and the last, which holds something, d at most.
  pub blocks_hold : (ceiling n d * d + last_burst n d ≡ n + d) × (0 < last_burst n d) × (last_burst n d ≤ d)
  blocks_hold =
      ⊎_elim
      (λ (e : n % d ≡ 0).
      rw (eq-eqb (n % d) 0 e) (omega (arith, div-add-mod' n d), omega arith, omega arith))
      (λ (p : 0 < n % d).
      let more : (n / d + 1) * d ≡ n / d * d + 1 * d = add-mul (n / d) 1 d in
      rw (ne_eqb (n % d) 0 (λ z. omega arith)) (omega (arith, div-add-mod' n d, more, one-mul d), omega arith, omega (arith, mod-lt n sized)))
      (eq-zero-or-pos (n % d))

  -- As many blocks of d hold n, and one fewer do not.
  pub ceiling_least : (n ≤ ceiling n d * d) × (ceiling n d * d < n + d)
  ceiling_least = let held = blocks_hold in (omega arith, omega arith)

  module _ (some : 0 < n) where
    ceiling_some : 0 < ceiling n d
    ceiling_some =
        ⊎_elim
        (λ (e : ceiling n d ≡ 0).
        let least = ceiling_least in
        let nothing : ceiling n d * d ≡ 0 = rw e (zero-mul d) in
        absurd (omega arith))
        (λ (p : 0 < ceiling n d). p)
        (eq-zero-or-pos (ceiling n d))

    again : ceiling n d - 1 + 1 ≡ ceiling n d
    again = let positive = ceiling_some in omega arith

    one_fewer : ceiling n d * d ≡ (ceiling n d - 1) * d + d
    one_fewer = let parts = rw again at (add-mul (ceiling n d - 1) 1 d) in omega (arith, one-mul d)

    -- ceil(n / d) - 1, by one division.
    pub blocks_before : (n - 1) / d ≡ ceiling n d - 1
    blocks_before =
        let least = ceiling_least in
        let fewer = one_fewer in
        div-eq_of_lt-le d (omega arith) (rw again (omega arith))

    -- (n mod d or d if 0) - 1, by the same division.
    pub rest_before : (n - 1) % d ≡ last_burst n d - 1
    rest_before =
        let held = blocks_hold in
        let fewer = one_fewer in
        let parts = rw blocks_before at (div-add-mod' (n - 1) d) in
        omega arith

-- P, by one division.
pub packets_are : (length packet : ℕ) → 0 < packet → 0 < length → packets_of length packet ≡ (length - 1) / packet + 1
unfolding packets_of
packets_are length packet sized some =
    rw (ne_eqb packet 0 (λ z. omega arith)) (omega (arith, blocks_before length packet sized some, ceiling_some length packet sized some))

-- P as `div_ceil` gives it.
pub packets_up : (length packet : ℕ) → 0 < packet → 0 < length → packets_of length packet ≡ length / packet + min 1 (length % packet)
unfolding packets_of
packets_up length packet sized some =
    let least = ceiling_some length packet sized some in
    ⊎_elim
    (λ (e : length % packet ≡ 0). rw (ne_eqb packet 0 (λ z. omega arith), eq-eqb (length % packet) 0 e) (omega (arith, rw (eq-eqb (length % packet) 0 e) at least)))
    (λ (p : 0 < length % packet). rw (ne_eqb packet 0 (λ z. omega arith), ne_eqb (length % packet) 0 (λ z. omega arith)) (omega arith))
    (eq-zero-or-pos (length % packet))

-- P where no size is set.
pub no_size : (length packet : ℕ) → packet ≡ 0 → packets_of length packet ≡ 1
unfolding packets_of
no_size length packet none = rw (eq-eqb packet 0 none) refl

empty : (packet : ℕ) → 0 < packet → packets_of 0 packet ≡ 1
unfolding packets_of
empty packet sized = rw (ne_eqb packet 0 (λ z. omega arith), zero-mod packet, zero-div packet) refl

-- P of a length that is no longer than the max packet size.
pub one_packet : (length packet : ℕ) → length ≤ packet → packets_of length packet ≡ 1
one_packet length packet short =
    ⊎_elim
    (no_size length packet)
    (λ (sized : 0 < packet).
    ⊎_elim
    (λ (none : length ≡ 0). rw none (empty packet sized))
    (λ (some : 0 < length).
    let below : length - 1 < packet = omega arith in
    packets_are length packet sized some ∙ rw (div-eq_of_lt below) refl)
    (eq-zero-or-pos length))
    (eq-zero-or-pos packet)

pub packets_some : (length packet : ℕ) → 0 < packets_of length packet
unfolding packets_of
packets_some length packet =
    ⊎_elim
    (λ (none : packet ≡ 0). rw (eq-eqb packet 0 none) (omega arith))
    (λ (sized : 0 < packet). rw (ne_eqb packet 0 (λ z. omega arith)) (omega arith))
    (eq-zero-or-pos packet)

module _ (length packet burst : ℕ) where
  -- Both counts, by one division of P - 1.
  pub bursts_are : bursts_of length packet burst
      ≡ record {
        count = min 31 ((packets_of length packet - 1) / (burst + 1));
        last = min 15 ((packets_of length packet - 1) % (burst + 1));
      }
  unfolding bursts_of
  bursts_are =
      let some = packets_some length packet in
      let each : 0 < burst + 1 = omega arith in
      rw (blocks_before (packets_of length packet) (burst + 1) each some, rest_before (packets_of length packet) (burst + 1) each some) refl

  -- Of packets that fit in one burst, and may fill it, by none.
  pub one_burst : packets_of length packet ≤ burst + 1 → bursts_of length packet burst ≡ record { count = 0; last = min 15 (packets_of length packet - 1) }
  one_burst fit =
      let some = packets_some length packet in
      let below : packets_of length packet - 1 < burst + 1 = omega arith in
      rw (bursts_are, div-eq_of_lt below, mod-eq_of_lt below) refl

  -- Of a length that is no longer than the max packet size both are 0.
  pub no_counts : length ≤ packet → bursts_of length packet burst ≡ record { count = 0; last = 0 }
  no_counts short = let one = one_packet length packet short in one_burst (omega arith) ∙ rw one refl
