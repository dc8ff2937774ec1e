pub mod Chains
pub mod TagTargets
