-- Sets of places, their weights and their order.
pub mod Members
pub mod Lowest
pub mod Sums
pub mod Order
pub mod Tables
pub mod Laws
