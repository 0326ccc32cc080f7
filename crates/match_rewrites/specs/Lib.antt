pub mod Unified
